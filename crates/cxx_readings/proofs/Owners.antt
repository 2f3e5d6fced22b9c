-- The bodies of a source are those of its records.
use Rattle.std.proofs.Common.{◌≡◌, ℕ, Bool, true, false, List, [], ◌∷◌, ◌++◌, map, Option, Some, None, slice_get, length, refl, sym, ap, subst, ◌∙◌, append_assoc}
use Rattle.std.specs.List.{filter_map, flat_map, AllByRecursion}
use Rattle.std.proofs.lemmas.List.{map-append}
use Rattle.std.proofs.lemmas.List.Elements.{filter_map-append, All-from_recursion}
use Rattle.foundation.proofs.Places.{get_behind}
use Rattle.cxx_grammar.specs.declared.sort.Lexeme.{Lexeme}
use Rattle.cxx_grammar.specs.Lexemes.{bytes_of}
use Rattle.cxx_hierarchy.specs.declared.records.Base.{Base}
use Rattle.cxx_hierarchy.specs.declared.records.Function.{Function}
use Rattle.cxx_hierarchy.specs.declared.records.ClassRec.{ClassRec}
use Rattle.cxx_hierarchy.specs.declared.records.PartAt.{PartAt}
use Rattle.cxx_hierarchy.specs.declared.records.PartKind.TheVariants as kind
use Rattle.cxx_syntax.specs.declared.tree.BodyTree.{BodyTree}
use Rattle.cxx_syntax.specs.declared.source_text.Body.{Body}
use Rattle.cxx_syntax.specs.declared.source_text.BodyOwner.{BodyOwner}
use Rattle.cxx_syntax.specs.declared.source_text.BodyOwner.TheVariants as owner
use Rattle.cxx_syntax.specs.declared.source_text.SourceText.{SourceText}
use Rattle.cxx_syntax.specs.declared.part.ClassPart.{ClassPart}
use Rattle.cxx_syntax.specs.declared.part.ClassPart.TheVariants as part
use Rattle.cxx_syntax.specs.declared.part.Item.{Item}
use Rattle.cxx_syntax.specs.Parts.{Spelled, PartReads, a_label, a_field, a_bit_field, a_function, a_pure_function, a_constructor, a_destructor, PartsRead, no_part, one_part}
use Rattle.cxx_syntax.specs.Definitions.{function_from, functions_among, given_by_parts, part_at, record_of, body_at, bodies_of}
use Rattle.cxx_syntax.specs.Sources.{ItemReads, a_class, a_forward, a_global, a_main, ItemsRead, no_item, one_item, record_in, bodies_in, SourceReads, a_source}
use Rattle.cxx_syntax.specs.Owners.{function_owner, owner_at, owner_in, IsIn, AreBodiesOf, no_class, one_class}

-- a function has no body exactly where it is pure
abbrev PartFits : ClassPart → Type 0
PartFits (part.Label p) = Unit {0}
PartFits (part.Field m ty_at) = Unit {0}
PartFits (part.Function f ty_at None) = f.is_pure ≡ true
PartFits (part.Function f ty_at (Some t)) = f.is_pure ≡ false
PartFits (part.Constructor at is t) = Unit {0}
PartFits (part.Destructor v at t) = Unit {0}

part_fits : {text : List ℕ} {is_public : Bool} {p : ClassPart} {ts rest : List Lexeme} → PartReads text is_public p ts rest → PartFits p
part_fits (a_label i k) = tt
part_fits (a_field f ty n c z e at) = tt
part_fits (a_bit_field f ty n o w z e at) = tt
part_fits (a_function v f r n o ps z b e at) = ap (λ (g : Function Spelled). g.is_pure) e
part_fits (a_pure_function v f r n o ps z w q k e at) = ap (λ (g : Function Spelled). g.is_pure) e
part_fits (a_constructor n o z is b at) = tt
part_fits (a_destructor v w n o z b at) = tt

parts_fit : {text : List ℕ} {is_public : Bool} {ps : List ClassPart} {ts rest : List Lexeme} → PartsRead text is_public ps ts rest → AllByRecursion PartFits ps
parts_fit no_part = tt
parts_fit (one_part h hs) = (part_fits h, parts_fit hs)

-- the function that a part names
named : (before ps : List ClassPart) (f : Function Spelled) (ty_at : ℕ) (b : Option BodyTree) → slice_get (functions_among (before ++ part.Function f ty_at b ∷ ps)) (length (functions_among before)) ≡ Some f
named before ps f ty_at b = rw (filter_map-append function_from before (part.Function f ty_at b ∷ ps)) (get_behind (functions_among before) f (functions_among ps))

pure_owner : (f : Function Spelled) (n : ℕ) → f.is_pure ≡ true → function_owner n (Some f) ≡ None
pure_owner f n e = rw e refl

other_owner : (f : Function Spelled) (n : ℕ) → f.is_pure ≡ false → function_owner n (Some f) ≡ Some (owner.Function n)
other_owner f n e = rw e refl

-- one owner, or none
abbrev listed : Option BodyOwner → List BodyOwner
listed None = []
listed (Some o) = o ∷ []

listed_map : {X : Type 0} (g : X → Option BodyOwner) (x : X) → filter_map g (x ∷ []) ≡ listed (g x)
listed_map g x = on (g x) refl where
  on : (o : Option BodyOwner) → g x ≡ o → filter_map g (x ∷ []) ≡ listed (g x)
  on None e = rw e refl
  on (Some o) e = rw e refl

abbrev function_part : ℕ → Function Spelled → ℕ → PartAt
function_part n f ty_at = record { kind = kind.Function; number = n; ty_at = Some ty_at; at = f.at }

-- the body of a part is that of the part
owner_of_part : (class : Spelled) (before ps : List ClassPart) (p : ClassPart) → PartFits p → map owner_in (body_at class before p) ≡ filter_map (owner_at (functions_among (before ++ p ∷ ps))) (part_at before p)
owner_of_part class before ps (part.Label p) h = refl
owner_of_part class before ps (part.Field m ty_at) h = refl
owner_of_part class before ps (part.Function f ty_at None) h =
    let e = ap (function_owner (length (functions_among before))) (named before ps f ty_at None) ∙ pure_owner f (length (functions_among before)) h in
    sym (listed_map (owner_at (functions_among (before ++ part.Function f ty_at None ∷ ps))) (function_part (length (functions_among before)) f ty_at) ∙ ap listed e)
owner_of_part class before ps (part.Function f ty_at (Some t)) h =
    let e = ap (function_owner (length (functions_among before))) (named before ps f ty_at (Some t)) ∙ other_owner f (length (functions_among before)) h in
    sym (listed_map (owner_at (functions_among (before ++ part.Function f ty_at (Some t) ∷ ps))) (function_part (length (functions_among before)) f ty_at) ∙ ap listed e)
owner_of_part class before ps (part.Constructor at is t) h = refl
owner_of_part class before ps (part.Destructor v at t) h = refl

owners : (class : Spelled) (before ps : List ClassPart) → AllByRecursion PartFits ps → map owner_in (given_by_parts (body_at class) before ps) ≡ filter_map (owner_at (functions_among (before ++ ps))) (given_by_parts part_at before ps)
owners class before [] h = refl
owners class before (p ∷ ps) (h, hs) =
    let fs : List (Function Spelled) = functions_among (before ++ p ∷ ps) in
    let same : functions_among ((before ++ p ∷ []) ++ ps) ≡ fs = ap functions_among (append_assoc before (p ∷ []) ps) in
    let later = owners class (before ++ p ∷ []) ps hs ∙ ap (λ (gs : List (Function Spelled)). filter_map (owner_at gs) (given_by_parts part_at (before ++ p ∷ []) ps)) same in
    map-append owner_in (body_at class before p) (given_by_parts (body_at class) (before ++ p ∷ []) ps)
    ∙ (ap (λ u. u ++ map owner_in (given_by_parts (body_at class) (before ++ p ∷ []) ps)) (owner_of_part class before ps p h)
    ∙ (ap (λ u. filter_map (owner_at fs) (part_at before p) ++ u) later
    ∙ sym (filter_map-append (owner_at fs) (part_at before p) (given_by_parts part_at (before ++ p ∷ []) ps))))

-- each body is one in the class
all_join : {X : Type 0} (P : X → Type 0) (xs ys : List X) → AllByRecursion P xs → AllByRecursion P ys → AllByRecursion P (xs ++ ys)
all_join P [] ys h k = k
all_join P (x ∷ xs) ys (a, h) k = (a, all_join P xs ys h k)

body_in : (r : ClassRec Spelled) (before : List ClassPart) (p : ClassPart) → AllByRecursion (IsIn r) (body_at r.name before p)
body_in r before (part.Label p) = tt
body_in r before (part.Field m ty_at) = tt
body_in r before (part.Function f ty_at None) = tt
body_in r before (part.Function f ty_at (Some t)) = (record { class = refl; inits = refl }, tt)
body_in r before (part.Constructor at is t) = (record { class = refl; inits = tt }, tt)
body_in r before (part.Destructor v at t) = (record { class = refl; inits = refl }, tt)

bodies_in_class : (r : ClassRec Spelled) (before ps : List ClassPart) → AllByRecursion (IsIn r) (given_by_parts (body_at r.name) before ps)
bodies_in_class r before [] = tt
bodies_in_class r before (p ∷ ps) = all_join (IsIn r) (body_at r.name before p) (given_by_parts (body_at r.name) (before ++ p ∷ []) ps) (body_in r before p) (bodies_in_class r (before ++ p ∷ []) ps)

class_bodies : (text : List ℕ) (n : Lexeme) (bases : List (Base Spelled)) (ps : List ClassPart) (rs : List (ClassRec Spelled)) (more : List Body) → AllByRecursion PartFits ps → AreBodiesOf rs more → AreBodiesOf (record_of text n bases ps ∷ rs) (bodies_of (bytes_of text n) ps ++ more)
class_bodies text n bases ps rs more h k =
    one_class (bodies_of (bytes_of text n) ps) more (All-from_recursion (IsIn (record_of text n bases ps)) (bodies_of (bytes_of text n) ps) (bodies_in_class (record_of text n bases ps) [] ps)) (owners (bytes_of text n) [] ps h) k

item_bodies : {text : List ℕ} {i : Item} {ts rest : List Lexeme} (is : List Item) → ItemReads text i ts rest → AreBodiesOf (filter_map record_in is) (flat_map bodies_in is) → AreBodiesOf (filter_map record_in (i ∷ is)) (flat_map bodies_in (i ∷ is))
item_bodies {text = text} is (a_class {bs = bs} {bases = bases} {parts = ps} {n = n} k m b o p z q e f) h =
    subst (λ c. AreBodiesOf (c ∷ filter_map record_in is) (bs ++ flat_map bodies_in is)) (sym e) (subst (λ us. AreBodiesOf (record_of text n bases ps ∷ filter_map record_in is) (us ++ flat_map bodies_in is)) (sym f) (class_bodies text n bases ps (filter_map record_in is) (flat_map bodies_in is) (parts_fit p) h))
item_bodies is (a_forward k m q) h = h
item_bodies is (a_global f v m q e) h = h
item_bodies is (a_main w m o z b) h = h

items_bodies : {text : List ℕ} {is : List Item} {ts rest : List Lexeme} → ItemsRead text is ts rest → AreBodiesOf (filter_map record_in is) (flat_map bodies_in is)
items_bodies no_item = no_class
items_bodies (one_item {is = is} h m) = item_bodies is h (items_bodies m)

pub source_bodies : (text : List ℕ) (s : SourceText) (ts rest : List Lexeme) → SourceReads text s ts rest → AreBodiesOf s.records s.bodies
source_bodies text s _ _ (a_source {is = is} items e make) = subst (λ rs. AreBodiesOf rs s.bodies) (sym make.records) (subst (AreBodiesOf (filter_map record_in is)) (sym make.bodies) (items_bodies items))
