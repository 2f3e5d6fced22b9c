-- The record that parts make, one part at a time.
use Rattle.std.proofs.Common.{◌≡◌, ◌≤◌, ℕ, Bool, true, false, ◌||◌, List, [], ◌∷◌, ◌++◌, Option, Some, None, length, refl, sym, ap, ◌∙◌, append_assoc, append-nil, arith}
use Rattle.std.specs.List.{filter_map, list_any}
use Rattle.std.proofs.lemmas.List.Elements.{filter_map-append}
use Rattle.std.proofs.lemmas.List.Folds.{list_any-append}
use Rattle.cxx_grammar.specs.declared.sort.Lexeme.{Lexeme}
use Rattle.cxx_grammar.specs.Lexemes.{bytes_of}
use Rattle.cxx_hierarchy.specs.declared.records.Destructor.{Destructor}
use Rattle.cxx_hierarchy.specs.declared.records.Destructor.TheVariants as destructor
use Rattle.cxx_hierarchy.specs.declared.records.Member.{Member}
use Rattle.cxx_hierarchy.specs.declared.records.Function.{Function}
use Rattle.cxx_hierarchy.specs.declared.records.PartKind.TheVariants as kind
use Rattle.cxx_syntax.specs.declared.tree.BodyTree.{BodyTree}
use Rattle.cxx_syntax.specs.declared.source_text.Init.{Init}
use Rattle.cxx_syntax.specs.declared.source_text.BodyOwner.TheVariants as owner
use Rattle.cxx_syntax.specs.declared.part.ClassPart.{ClassPart}
use Rattle.cxx_syntax.specs.declared.part.ClassPart.TheVariants as part
use Rattle.cxx_record_parser.specs.declared.draft.Draft.{Draft}
use Rattle.cxx_syntax.specs.Parts.{Spelled}
use Rattle.cxx_syntax.specs.Definitions.{member_from, function_from, members_among, functions_among, given_by_parts, part_at, is_constructor_part, destructor_after, last_destructor, body_at, entry, a_body, declared_destructor}
use Rattle.cxx_record_parser.specs.invariants.Readers.{IsDraft}

-- the last of some parts gives by those before it
pub in_turn-append : {X : Type 0} (give : List ClassPart → ClassPart → List X) (before ps : List ClassPart) (p : ClassPart) →
    given_by_parts give before (ps ++ p ∷ []) ≡ given_by_parts give before ps ++ give (before ++ ps) p
in_turn-append give before [] p = append-nil (give before p) ∙ ap (λ u. give u p) (sym (append-nil before))
in_turn-append give before (q ∷ ps) p =
    ap (λ u. give before q ++ u) (in_turn-append give (before ++ q ∷ []) ps p ∙ ap (λ u. given_by_parts give (before ++ q ∷ []) ps ++ give u p) (append_assoc before (q ∷ []) ps))
    ∙ sym (append_assoc (give before q) (given_by_parts give (before ++ q ∷ []) ps) (give (before ++ (q ∷ ps)) p))

pub last_destructor-append : (d : Destructor) (ps : List ClassPart) (p : ClassPart) → last_destructor d (ps ++ p ∷ []) ≡ destructor_after (last_destructor d ps) p
last_destructor-append d [] p = refl
last_destructor-append d (q ∷ ps) p = last_destructor-append (destructor_after d q) ps p

pub or_false : (b : Bool) → (b || false) ≡ b
or_false true = refl
or_false false = refl

-- a list with one item more has at least as many that are chosen
one_more_chosen : {X Y : Type 0} (f : X → Option Y) (x : X) (xs : List X) (o : Option Y) → f x ≡ o → length (filter_map f xs) ≤ length xs → length (filter_map f (x ∷ xs)) ≤ length (x ∷ xs)
one_more_chosen f x xs None e h = rw e (omega (arith, h))
one_more_chosen f x xs (Some y) e h = rw e (omega (arith, h))

-- there are at most as many members and functions as parts
chosen_few : {X Y : Type 0} (f : X → Option Y) (xs : List X) → length (filter_map f xs) ≤ length xs
chosen_few f [] = omega arith
chosen_few f (x ∷ xs) = one_more_chosen f x xs (f x) refl (chosen_few f xs)

pub few_members : (text : List ℕ) (class : Lexeme) (parts : List ClassPart) (d : Draft) (n : ℕ) → IsDraft text class parts d → length parts ≤ n → length d.members ≤ n
few_members text class parts d n h le = let m = chosen_few member_from parts in let e = ap length h.members in omega (arith, le, m, e)

pub few_functions : (text : List ℕ) (class : Lexeme) (parts : List ClassPart) (d : Draft) (n : ℕ) → IsDraft text class parts d → length parts ≤ n → length d.functions ≤ n
few_functions text class parts d n h le = let m = chosen_few function_from parts in let e = ap length h.functions in omega (arith, le, m, e)

-- a draft with one part more
pub drafted : (text : List ℕ) (class : Lexeme) (parts : List ClassPart) (p : ClassPart) (d e : Draft) → IsDraft text class parts d →
    e.members ≡ d.members ++ members_among (p ∷ []) → e.functions ≡ d.functions ++ functions_among (p ∷ []) → e.order ≡ d.order ++ part_at parts p →
    e.has_constructor ≡ (d.has_constructor || is_constructor_part p) → e.destructor ≡ destructor_after d.destructor p →
    e.bodies ≡ d.bodies ++ body_at (bytes_of text class) parts p → IsDraft text class (parts ++ p ∷ []) e
drafted text class parts p d e h m f o c t b = record {
  members = m ∙ (ap (λ u. u ++ members_among (p ∷ [])) h.members ∙ sym (filter_map-append member_from parts (p ∷ [])));
  functions = f ∙ (ap (λ u. u ++ functions_among (p ∷ [])) h.functions ∙ sym (filter_map-append function_from parts (p ∷ [])));
  order = o ∙ (ap (λ u. u ++ part_at parts p) h.order ∙ sym (in_turn-append part_at [] parts p));
  has_constructor = c ∙ (ap (λ u. u || is_constructor_part p) h.has_constructor ∙ (ap (λ u. list_any is_constructor_part parts || u) (sym (or_false (is_constructor_part p))) ∙ sym (list_any-append is_constructor_part parts (p ∷ []))));
  destructor = t ∙ (ap (λ u. destructor_after u p) h.destructor ∙ sym (last_destructor-append destructor.Implicit parts p));
  bodies = b ∙ (ap (λ u. u ++ body_at (bytes_of text class) parts p) h.bodies ∙ sym (in_turn-append (body_at (bytes_of text class)) [] parts p));
}

pub label_drafted : (text : List ℕ) (class : Lexeme) (parts : List ClassPart) (l : Bool) (d : Draft) → IsDraft text class parts d → IsDraft text class (parts ++ part.Label l ∷ []) d
label_drafted text class parts l d h = drafted text class parts (part.Label l) d d h (sym (append-nil d.members)) (sym (append-nil d.functions)) (sym (append-nil d.order)) (sym (or_false d.has_constructor)) refl (sym (append-nil d.bodies))

pub field_drafted : (text : List ℕ) (class : Lexeme) (parts : List ClassPart) (m : Member Spelled) (ty_at : ℕ) (d e : Draft) → IsDraft text class parts d →
    e ≡ record d { members = d.members ++ m ∷ []; order = d.order ++ entry kind.Member (length d.members) (Some ty_at) m.at } → IsDraft text class (parts ++ part.Field m ty_at ∷ []) e
field_drafted text class parts m ty_at d e h q = drafted text class parts (part.Field m ty_at) d e h (rw q refl) (rw q (sym (append-nil d.functions))) (rw (q, h.members) refl) (rw q (sym (or_false d.has_constructor))) (rw q refl) (rw q (sym (append-nil d.bodies)))

-- a function, of which the entry stands in the order already
pub function_drafted : (text : List ℕ) (class : Lexeme) (parts : List ClassPart) (f : Function Spelled) (ty_at n : ℕ) (t : BodyTree) (is : List Init) (fs : List (Function Spelled)) (d e g : Draft) → IsDraft text class parts d →
    n ≡ length d.functions → e ≡ record d { order = d.order ++ entry kind.Function n (Some ty_at) f.at } → fs ≡ e.functions ++ f ∷ [] → is ≡ [] →
    g ≡ record e { functions = fs; bodies = e.bodies ++ a_body (bytes_of text class) (owner.Function n) is t } → IsDraft text class (parts ++ part.Function f ty_at (Some t) ∷ []) g
function_drafted text class parts f ty_at n t is fs d e g h nq eq fq iq gq = drafted text class parts (part.Function f ty_at (Some t)) d g h
    (rw (gq, eq) (sym (append-nil d.members))) (rw (gq, fq, eq) refl) (rw (gq, eq, nq, h.functions) refl) (rw (gq, eq) (sym (or_false d.has_constructor))) (rw (gq, eq) refl) (rw (gq, eq, iq, nq, h.functions) refl)

pub pure_drafted : (text : List ℕ) (class : Lexeme) (parts : List ClassPart) (f : Function Spelled) (ty_at n : ℕ) (fs : List (Function Spelled)) (d e : Draft) → IsDraft text class parts d →
    n ≡ length d.functions → e ≡ record d { order = d.order ++ entry kind.Function n (Some ty_at) f.at } → fs ≡ e.functions ++ f ∷ [] →
    IsDraft text class (parts ++ part.Function f ty_at None ∷ []) (record e { functions = fs })
pure_drafted text class parts f ty_at n fs d e h nq eq fq = drafted text class parts (part.Function f ty_at None) d (record e { functions = fs }) h
    (rw eq (sym (append-nil d.members))) (rw (fq, eq) refl) (rw (eq, nq, h.functions) refl) (rw eq (sym (or_false d.has_constructor))) (rw eq refl) (rw eq (sym (append-nil d.bodies)))

or_true : (b : Bool) → true ≡ (b || true)
or_true true = refl
or_true false = refl

pub constructor_drafted : (text : List ℕ) (class : Lexeme) (parts : List ClassPart) (at : ℕ) (is : List Init) (t : BodyTree) (d e g : Draft) → IsDraft text class parts d →
    e ≡ record d { order = d.order ++ entry kind.Constructor 0 None at } →
    g ≡ record e { has_constructor = true; bodies = e.bodies ++ a_body (bytes_of text class) owner.Constructor is t } → IsDraft text class (parts ++ part.Constructor at is t ∷ []) g
constructor_drafted text class parts at is t d e g h eq gq = drafted text class parts (part.Constructor at is t) d g h
    (rw (gq, eq) (sym (append-nil d.members))) (rw (gq, eq) (sym (append-nil d.functions))) (rw (gq, eq) refl) (rw gq (or_true d.has_constructor)) (rw (gq, eq) refl) (rw (gq, eq) refl)

pub destructor_drafted : (text : List ℕ) (class : Lexeme) (parts : List ClassPart) (v : Bool) (at : ℕ) (is : List Init) (t : BodyTree) (k : Destructor) (d e g : Draft) → IsDraft text class parts d →
    e ≡ record d { order = d.order ++ entry kind.Destructor 0 None at } → k ≡ declared_destructor v → is ≡ [] →
    g ≡ record e { destructor = k; bodies = e.bodies ++ a_body (bytes_of text class) owner.Destructor is t } → IsDraft text class (parts ++ part.Destructor v at t ∷ []) g
destructor_drafted text class parts v at is t k d e g h eq kq iq gq = drafted text class parts (part.Destructor v at t) d g h
    (rw (gq, eq) (sym (append-nil d.members))) (rw (gq, eq) (sym (append-nil d.functions))) (rw (gq, eq) refl) (rw (gq, eq) (sym (or_false d.has_constructor))) (rw (gq, kq) refl) (rw (gq, eq, iq) refl)
