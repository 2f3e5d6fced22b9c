-- A list has one source at its front.
use Rattle.std.proofs.Common.{◌≡◌, ℕ, suc, Bool, List, [], ◌∷◌, Option, Some, None, refl, ap, sym, ◌∙◌, subst, length}
use Rattle.std.specs.Prelude.{filter_map, flat_map}
use Rattle.cxx_grammar.specs.declared.sort.Sort.{Sort}
use Rattle.cxx_grammar.specs.declared.sort.Sort.TheVariants.{Struct, Class, Int, Main, Semicolon, OpenBrace, End}
use Rattle.cxx_grammar.specs.declared.sort.Lexeme.{Lexeme}
use Rattle.cxx_grammar.specs.Front.{Is, IsName}
use Rattle.cxx_grammar.specs.Lexemes.{bytes_of}
use Rattle.cxx_hierarchy.specs.declared.records.ClassRec.{ClassRec}
use Rattle.cxx_hierarchy.specs.declared.records.ValueType.{ValueType}
use Rattle.cxx_syntax.specs.declared.tree.BodyTree.{BodyTree}
use Rattle.cxx_syntax.specs.Statements.{an_int, ValueReads, a_scalar, a_class_pointer}
use Rattle.cxx_syntax.specs.SameTrees.{SameBody}
use Rattle.cxx_syntax.specs.declared.source_text.Global.{Global}
use Rattle.cxx_syntax.specs.declared.source_text.Body.{Body}
use Rattle.cxx_syntax.specs.declared.source_text.SourceText.{SourceText}
use Rattle.cxx_syntax.specs.declared.part.Item.{Item}
use Rattle.cxx_syntax.specs.declared.part.Item.TheVariants as item
use Rattle.cxx_syntax.specs.Parts.{Spelled, BasesRead, no_bases, some_bases}
use Rattle.cxx_syntax.specs.Sources.{default_of, IsClassKey, ItemReads, a_class, a_forward, a_global, a_main, ItemsRead, no_item, one_item, record_in, global_in, bodies_in, main_in, bodies_before_main, trees_in, AreItemsOf, SourceReads, a_source}
use Rattle.cxx_syntax.specs.Definitions.{bodies_of}
use Rattle.cxx_syntax.specs.SameSources.{SameBodies, no_bodies, more_bodies, SameMain, SameSource}
use Rattle.cxx_readings.proofs.Heads.{head, rests, firsts, by_is, by_name, clash}
use Rattle.cxx_readings.proofs.SameValues.{goes_on, scalar_same, value_by, value_same}
use Rattle.cxx_readings.proofs.SameStatements.{body_same}
use Rattle.cxx_readings.proofs.SameBases.{bases_same, list_mark}
use Rattle.cxx_readings.proofs.SameParts.{parts_same}
use Rattle.cxx_readings.proofs.SameRecords.{record_same, bodies_same, bodies_join}

-- items that say the same
data SameItem : Item → Item → Type 0 where
  same_class : {c : ClassRec Spelled} {ls rs : List Body} → SameBodies ls rs → SameItem (item.Class c ls) (item.Class c rs)
  same_forward : SameItem item.Forward item.Forward
  same_global : {g : Global} → SameItem (item.Global g) (item.Global g)
  same_main : {t u : BodyTree} → SameBody t u → SameItem (item.Main t) (item.Main u)

data SameItems : List Item → List Item → Type 0 where
  no_items : SameItems [] []
  more_items : {i j : Item} {is js : List Item} → SameItem i j → SameItems is js → SameItems (i ∷ is) (j ∷ js)

class_same : {c d : ClassRec Spelled} {ls rs : List Body} → c ≡ d → SameBodies ls rs → SameItem (item.Class c ls) (item.Class d rs)
class_same {c = c} {ls = ls} {rs = rs} e s = subst (λ d. SameItem (item.Class c ls) (item.Class d rs)) e (same_class s)

global_same : {g h : Global} → g ≡ h → SameItem (item.Global g) (item.Global h)
global_same {g = g} e = subst (λ h. SameItem (item.Global g) (item.Global h)) e same_global

-- "struct" or "class"
by_key : {A : Type 0} (f : Sort → A) (a : A) → f Struct ≡ a → f Class ≡ a → {d : Bool} {l : Lexeme} {ts r : List Lexeme} → IsClassKey d l ts r → f (head ts) ≡ a
by_key f a p q {d = d} {l = l} k = ap (λ us. f (head us)) k.front ∙ of_sort l.sort k.key where
  of_sort : (s : Sort) → default_of s ≡ Some d → f s ≡ a
  of_sort Struct e = p
  of_sort Class e = q
  of_sort _ e = absurd (cc)

key_same : {d c : Bool} {l m : Lexeme} {ts us r s : List Lexeme} → ts ≡ us → IsClassKey d l ts r → IsClassKey c m us s → d ≡ c
key_same {d = d} {c = c} e i j = let l = firsts e i.front j.front in let f : Some d ≡ Some c = sym i.key ∙ (ap (λ k. default_of k.sort) l ∙ j.key) in cc

-- a class and a forward declaration are one form here, and so are a variable and main
abbrev item_kind : Sort → ℕ
item_kind Struct = 0
item_kind Class = 0
item_kind End = 2
item_kind _ = 1

kind_of : {text : List ℕ} {i : Item} {ts r : List Lexeme} → ItemReads text i ts r → ℕ
kind_of (a_class k n b o p z q e f) = 0
kind_of (a_forward k n q) = 0
kind_of (a_global f v n q e) = 1
kind_of (a_main w m o z b) = 1

item_front : {text : List ℕ} {i : Item} {ts r : List Lexeme} (h : ItemReads text i ts r) → item_kind (head ts) ≡ kind_of h
unfolding kind_of
item_front (a_class k n b o p z q e f) = by_key item_kind 0 refl refl k
item_front (a_forward k n q) = by_key item_kind 0 refl refl k
item_front (a_global f v n q e) = value_by item_kind 1 refl refl refl refl refl refl refl refl refl v
item_front (a_main w m o z b) = by_is item_kind w

no_end : {text : List ℕ} {i : Item} {ts r : List Lexeme} (h : ItemReads text i ts r) → kind_of h ≡ 2 → ⊥
unfolding kind_of
no_end (a_forward k n q) e = absurd (cc)
no_end _ e = absurd (cc)

not_at_end : {text : List ℕ} {i : Item} {ts r : List Lexeme} → ItemReads text i ts r → head ts ≡ End → ⊥
not_at_end h e = no_end h (sym (item_front h) ∙ ap item_kind e)

abbrev is_semicolon : Sort → ℕ
is_semicolon Semicolon = 1
is_semicolon _ = 0

bases_front : {text : List ℕ} {d : Bool} {bs : _} {ts r a : List Lexeme} {o : Lexeme} → BasesRead text d bs ts r → Is OpenBrace o r a → is_semicolon (head ts) ≡ 0
bases_front no_bases o = by_is is_semicolon o
bases_front (some_bases k x y) o = by_is is_semicolon k

no_class : {text : List ℕ} {d c : Bool} {bs : _} {ts us a b e f a' b' e' : List Lexeme} {k n o k' n' q : Lexeme} → ts ≡ us →
    IsClassKey d k ts a → IsName n a b → BasesRead text d bs b e → Is OpenBrace o e f → IsClassKey c k' us a' → IsName n' a' b' → Is Semicolon q b' e' → ⊥
no_class e k n b o k' n' q =
    let f : ◌≡◌ {A = ℕ} 0 1 = clash (λ us. is_semicolon (head us)) (rests (rests e k.front k'.front) n.front n'.front) (bases_front b o) (by_is is_semicolon q) in absurd (cc)

-- a variable's type and name are not "int" and "main"
abbrev name_mark : Sort → ℕ
name_mark Int = 1
name_mark Main = 2
name_mark _ = 0

no_main : {text : List ℕ} {v : ValueType Spelled} {ts us a b c d : List Lexeme} {n w m : Lexeme} → ts ≡ us →
    ValueReads text v ts a → IsName n a b → Is Int w us c → Is Main m c d → ⊥
no_main e (a_scalar h) n w m =
    let x = scalar_same e (by_name goes_on 0 refl refl n) (by_is goes_on m) h (an_int w) in
    let f : ◌≡◌ {A = ℕ} 0 2 = clash (λ us. name_mark (head us)) x.1 (by_name name_mark 0 refl refl n) (by_is name_mark m) in absurd (cc)
no_main e (a_class_pointer i j p) n w m =
    let f : ◌≡◌ {A = ℕ} 0 1 = clash (λ us. name_mark (head us)) e (by_name name_mark 0 refl refl i) (by_is name_mark w) in absurd (cc)

abbrev global_of : List ℕ → Lexeme → ValueType Spelled → Lexeme → Global
global_of text f v n = record { name = bytes_of text n; ty = v; ty_at = f.at; at = n.at }

item_same : {text : List ℕ} {i j : Item} {ts us r s : List Lexeme} → ts ≡ us → ItemReads text i ts r → ItemReads text j us s → SameItem i j × (r ≡ s)
unfolding kind_of
item_same {text = text} e (a_class {bs = ls} {bases = bs} {parts = ps} {b = b} {d = d} k n x o p z q c y) (a_class {bs = rs} {parts = qs} {n = m} k' n' x' o' p' z' q' c' y') =
    let h = key_same e k k' in
    let u = rests e k.front k'.front in
    let l = firsts u n.front n'.front in
    let v = bases_same (rests u n.front n'.front) (by_is list_mark o) (by_is list_mark o') (subst (λ w. BasesRead text w bs b d) h x) x' in
    let w = parts_same h (rests v.1 o.front o'.front) (by_is (λ s. s) z) (by_is (λ s. s) z') p p' in
    let g = c ∙ (record_same text l v.0 w.0 ∙ sym c') in
    let j = subst (λ r. SameBodies ls r) (sym y') (subst (λ s. SameBodies s (bodies_of (bytes_of text m) qs)) (sym y) (bodies_same text l w.0)) in
    (class_same g j, rests (rests w.1 z.front z'.front) q.front q'.front)
item_same e (a_class k n x o p z q c y) (a_forward k' n' q') = absurd (no_class e k n x o k' n' q')
item_same e (a_forward k n q) (a_class k' n' x o p z q' c y) = absurd (no_class (sym e) k' n' x o k n q)
item_same e (a_forward k n q) (a_forward k' n' q') = (same_forward, rests (rests (rests e k.front k'.front) n.front n'.front) q.front q'.front)
item_same {text = text} e (a_global {v = x} {f = a} f v n q p) (a_global {v = y} {f = b} {n = m} f' v' n' q' p') =
    let u = value_same e n n' v v' in
    let l = firsts u.1 n.front n'.front in
    let g = p ∙ (ap (λ k. global_of text a x k) l ∙ (ap (λ k. global_of text a k m) u.0 ∙ (ap (λ k. global_of text k y m) (firsts e f.front f'.front) ∙ sym p'))) in
    (global_same g, rests (rests u.1 n.front n'.front) q.front q'.front)
item_same e (a_global f v n q p) (a_main w m o z b) = absurd (no_main e v n w m)
item_same e (a_main w m o z b) (a_global f v n q p) = absurd (no_main (sym e) v n w m)
item_same e (a_main w m o z b) (a_main w' m' o' z' b') =
    let u = body_same (rests (rests (rests (rests e w.front w'.front) m.front m'.front) o.front o'.front) z.front z'.front) b b' in
    (same_main u.0, u.1)
item_same e h g = absurd (let f : kind_of h ≡ kind_of g = clash (λ us. item_kind (head us)) e (item_front h) (item_front g) in cc)

items_same : {text : List ℕ} {is js : List Item} {ts us r s : List Lexeme} → ts ≡ us → head r ≡ End → head s ≡ End → ItemsRead text is ts r → ItemsRead text js us s → SameItems is js × (r ≡ s)
items_same e x y no_item no_item = (no_items, e)
items_same e x y no_item (one_item h g) = absurd (not_at_end h (ap head (sym e) ∙ x))
items_same e x y (one_item h g) no_item = absurd (not_at_end h (ap head e ∙ y))
items_same e x y (one_item h g) (one_item h' g') = let u = item_same e h h' in let v = items_same u.1 x y g g' in (more_items u.0 v.0, v.1)

-- what the items make
records_same : {is js : List Item} → SameItems is js → filter_map record_in is ≡ filter_map record_in js
records_same no_items = refl
records_same (more_items (same_class {c = c} b) s) = ap (λ cs. c ∷ cs) (records_same s)
records_same (more_items same_forward s) = records_same s
records_same (more_items same_global s) = records_same s
records_same (more_items (same_main b) s) = records_same s

globals_same : {is js : List Item} → SameItems is js → filter_map global_in is ≡ filter_map global_in js
globals_same no_items = refl
globals_same (more_items (same_class b) s) = globals_same s
globals_same (more_items same_forward s) = globals_same s
globals_same (more_items (same_global {g = g}) s) = ap (λ gs. g ∷ gs) (globals_same s)
globals_same (more_items (same_main b) s) = globals_same s

all_bodies : {is js : List Item} → SameItems is js → SameBodies (flat_map bodies_in is) (flat_map bodies_in js)
all_bodies no_items = no_bodies
all_bodies (more_items (same_class b) s) = bodies_join b (all_bodies s)
all_bodies (more_items same_forward s) = all_bodies s
all_bodies (more_items same_global s) = all_bodies s
all_bodies (more_items (same_main b) s) = all_bodies s

data SameTrees : List BodyTree → List BodyTree → Type 0 where
  no_trees : SameTrees [] []
  more_trees : {t u : BodyTree} {ts us : List BodyTree} → SameBody t u → SameTrees ts us → SameTrees (t ∷ ts) (u ∷ us)

all_mains : {is js : List Item} → SameItems is js → SameTrees (filter_map main_in is) (filter_map main_in js)
all_mains no_items = no_trees
all_mains (more_items (same_class b) s) = all_mains s
all_mains (more_items same_forward s) = all_mains s
all_mains (more_items same_global s) = all_mains s
all_mains (more_items (same_main b) s) = more_trees b (all_mains s)

main_same : (x y : Option BodyTree) → SameTrees (trees_in x) (trees_in y) → SameMain x y
main_same None None h = tt
main_same (Some a) (Some b) (more_trees s t) = s
main_same None (Some b) h = elim h [ ]
main_same (Some a) None h = elim h [ ]

before_main : {is js : List Item} → SameItems is js → SameBodies (bodies_before_main is) (bodies_before_main js)
before_main no_items = no_bodies
before_main (more_items (same_class b) s) = bodies_join b (before_main s)
before_main (more_items same_forward s) = before_main s
before_main (more_items same_global s) = before_main s
before_main (more_items (same_main b) s) = no_bodies

lengths : {ls rs : List Body} → SameBodies ls rs → length ls ≡ length rs
lengths no_bodies = refl
lengths (more_bodies c o i b s) = ap suc (lengths s)

source_of : {s t : SourceText} {is js : List Item} → SameItems is js → AreItemsOf s is → AreItemsOf t js → SameSource s t
source_of {s = s} {t = t} {is = is} {js = js} i x y = record {
  records = x.records ∙ (records_same i ∙ sym y.records);
  globals = x.globals ∙ (globals_same i ∙ sym y.globals);
  bodies = subst (λ r. SameBodies s.bodies r) (sym y.bodies) (subst (λ l. SameBodies l (flat_map bodies_in js)) (sym x.bodies) (all_bodies i));
  main = main_same s.main t.main (subst (λ r. SameTrees (trees_in s.main) r) (sym y.main) (subst (λ l. SameTrees l (filter_map main_in js)) (sym x.main) (all_mains i)));
  main_place = x.main_place ∙ (lengths (before_main i) ∙ sym y.main_place);
}

pub source_same : (text : List ℕ) (s t : SourceText) (ts a b : List Lexeme) → SourceReads text s ts a → SourceReads text t ts b → SameSource s t × (a ≡ b)
source_same text s t ts a b (a_source h e x) (a_source g f y) =
    let u = items_same refl (by_is (λ s. s) e) (by_is (λ s. s) f) h g in (source_of u.0 x y, rests u.1 e.front f.front)
