-- Items of a source behind the token that begins them, and whether a main is among them.
use Rattle.std.proofs.Common.{◌≡◌, ℕ, inl, inr, Bool, true, false, cond, List, [], ◌∷◌, Option, Some, None, filter_map, refl, sym, ap, subst}
use Rattle.cxx_grammar.specs.declared.sort.Sort.{Sort}
use Rattle.cxx_grammar.specs.declared.sort.Sort.TheVariants.{Struct, Class, Int, Main, Name, OwnName, OpenBrace, Semicolon, Colon, End}
use Rattle.cxx_grammar.specs.declared.sort.Lexeme.{Lexeme}
use Rattle.cxx_grammar.specs.Sorts.{is_name}
use Rattle.cxx_grammar.specs.Front.{Is, IsName}
use Rattle.cxx_grammar.specs.Event.{State, admit}
use Rattle.cxx_grammar.specs.Table.{Only, AName, ClassTail, AfterInt, ItemsEnd, after}
use Rattle.cxx_grammar.specs.Lexemes.{bytes_of}
use Rattle.cxx_hierarchy.specs.declared.records.Base.{Base}
use Rattle.cxx_hierarchy.specs.declared.records.Scalar.TheVariants as scalar
use Rattle.cxx_hierarchy.specs.declared.records.ValueType.{ValueType}
use Rattle.cxx_hierarchy.specs.declared.records.ValueType.TheVariants as value
use Rattle.cxx_syntax.specs.declared.tree.BodyTree.{BodyTree}
use Rattle.cxx_syntax.specs.Statements.{an_int, ValueReads, a_scalar}
use Rattle.cxx_syntax.specs.declared.part.Item.{Item}
use Rattle.cxx_syntax.specs.declared.part.Item.TheVariants as item
use Rattle.cxx_syntax.specs.Definitions.{record_of, bodies_of}
use Rattle.cxx_syntax.specs.Parts.{Spelled, BasesRead, no_bases, some_bases}
use Rattle.cxx_syntax.specs.Sources.{default_of, IsClassKey, ItemReads, a_class, a_forward, a_global, a_main, ItemsRead, no_item, one_item, main_in, trees_in}
use Rattle.cxx_readings.proofs.Meanings.{ClassEnds, MainSays, Keeps, Got, Gots, all_done, one_done, NextGots, Step}
use Rattle.cxx_readings.proofs.Fronts.{here, name_here, first_here, is_first, value_front}
use Rattle.cxx_readings.proofs.Parts.{class_ends}

-- an item that is no main
abbrev pub AnItem : List ℕ → List Lexeme → List Lexeme → Type 0
AnItem text ts r = (i : Item) × ItemReads text i ts r × (main_in i ≡ None)

the_class : {text : List ℕ} {default : Bool} {k n : Lexeme} {all a b d r : List Lexeme} {bases : List (Base Spelled)} → IsClassKey default k all a → IsName n a b → BasesRead text default bases b d → ClassEnds text default d r → AnItem text all r
the_class {text = text} {n = n} {bases = bases} hk hn hb (ps, o, z, q, e, f, g, ho, hp, hz, hq) =
    (item.Class (record_of text n bases ps) (bodies_of (bytes_of text n) ps), a_class hk hn hb ho hp hz hq refl refl, refl)

pub class_tail : (text : List ℕ) → Step text ClassTail
class_tail text Colon l ts r s v s' is (one_done b _ _ (one_done g _ _ all_done)) =
    λ default k n all a hk hn. (let x = b default in let y = g default in the_class hk hn (some_bases (here is) x.1 y.2) y.3)
class_tail text OpenBrace l ts r s v s' is h = λ default k n all a hk hn. the_class hk hn no_bases (class_ends is h default)
class_tail text Semicolon l ts r s v s' is all_done = λ default k n all a hk hn. (item.Forward, a_forward hk hn (here is), refl)
class_tail text _ l ts r s v s' is h = absurd h

the_global : {text : List ℕ} {l n q : Lexeme} {ts a b r : List Lexeme} (u : ValueType Spelled) → ValueReads text u (l ∷ ts) a → IsName n a b → Is Semicolon q b r → AnItem text (l ∷ ts) r
the_global {text = text} {l = l} {n = n} u h i j = (item.Global (record { name = bytes_of text n; ty = u; ty_at = l.at; at = n.at }), a_global first_here h i j refl, refl)

-- after "int": a variable, or a main that is the first
int_global : {text : List ℕ} {l : Lexeme} {ts r : List Lexeme} {v s' : State} → is_name l.sort ≡ true → Gots text (Only Semicolon ∷ []) v ts s' r → (w : Lexeme) (all : List Lexeme) → Is Int w all (l ∷ ts) → (i : Item) × ItemReads text i all r × (main_in i ≡ None)
int_global {text = text} {l = l} is (one_done q _ _ all_done) w all h =
    (item.Global (record { name = bytes_of text l; ty = value.Number scalar.Int; ty_at = w.at; at = l.at }), a_global (is_first h) (a_scalar (an_int h)) (name_here is) q.1 refl, refl)

first_main : (b : Bool) (s v : State) → s.main ≡ b → cond b None (Some (record { blocks = s.blocks; main = true })) ≡ Some v → (s.main ≡ false) × (v.main ≡ true)
first_main true s v m e = absurd (cc)
first_main false s v m e = let h : true ≡ v.main = cc in (m, sym h)

pub after_int : (text : List ℕ) (t : Sort) (l : Lexeme) (ts r : List Lexeme) (s v s' : State) → l.sort ≡ t → admit t s ≡ Some v → NextGots text (after AfterInt t) v ts s' r → Got text AfterInt s (l ∷ ts) s' r
after_int text Name l ts r s v s' is a h = λ w all hw. (let x = int_global (ap is_name is) h w all hw in (x.0, x.1, inl x.2))
after_int text OwnName l ts r s v s' is a h = λ w all hw. (let x = int_global (ap is_name is) h w all hw in (x.0, x.1, inl x.2))
after_int text Main l ts r s v s' is a (one_done o k1 _ (one_done z k2 _ (one_done t k3 _ all_done))) =
    λ w all hw. (let m = first_main s.main s v refl a in (item.Main t.0, a_main hw (here is) o.1 z.1 t.1, inr (t.0, refl, m.0, k3 (k2 (k1 m.1)))))
after_int text _ l ts r s v s' is a h = absurd h

-- one item more
abbrev SomeItems : List ℕ → State → List Lexeme → List Lexeme → Type 0
SomeItems text s ts r = (is : List Item) × (o : Option BodyTree) × (a : List Lexeme) × (e : Lexeme) × ItemsRead text is ts a × Is End e a r × (trees_in o ≡ filter_map main_in is) × (s.main ≡ true → o ≡ None)

no_main_more : (i : Item) (is : List Item) (o : Option BodyTree) → main_in i ≡ None → trees_in o ≡ filter_map main_in is → trees_in o ≡ filter_map main_in (i ∷ is)
no_main_more i is o e h = rw e h

main_more : (i : Item) (is : List Item) (t : BodyTree) → main_in i ≡ Some t → [] ≡ filter_map main_in is → t ∷ [] ≡ filter_map main_in (i ∷ is)
main_more i is t e h = rw (e, ← h) refl

more_items : {text : List ℕ} {all a r : List Lexeme} (s v : State) → AnItem text all a → Keeps s v → SomeItems text v a r → SomeItems text s all r
more_items s v x ks (is, o, b, e, h, i, m, k) = (x.0 ∷ is, o, b, e, one_item x.1 h, i, no_main_more x.0 is o x.2 m, λ c. k (ks c))

main_items : {text : List ℕ} {all a r : List Lexeme} (s v : State) (x : Item) → ItemReads text x all a → MainSays s v x → Keeps s v → SomeItems text v a r → SomeItems text s all r
main_items s v x hx (inl e) ks y = more_items s v (x, hx, e) ks y
main_items s v x hx (inr (t, e, m, n)) ks (is, o, b, z, h, i, q, k) =
    let none_left : o ≡ None = k n in
    let q' : [] ≡ filter_map main_in is = subst (λ u. trees_in u ≡ filter_map main_in is) none_left q in
    (x ∷ is, Some t, b, z, one_item hx h, i, main_more x is t e q', λ c. absurd (cc))

global_items : {text : List ℕ} {l n : Lexeme} {ts a left r : List Lexeme} {state s' : State} (s : State) (u : ValueType Spelled) → ValueReads text u (l ∷ ts) a → IsName n a left → Keeps s state → Gots text (Only Semicolon ∷ ItemsEnd ∷ []) state left s' r → SomeItems text s (l ∷ ts) r
global_items s u h i k0 (one_done {v = w} q k1 _ (one_done g _ _ all_done)) = more_items s w (the_global u h i q.1) (λ c. k1 (k0 c)) g

class_items : {text : List ℕ} {default : Bool} {l : Lexeme} {ts r : List Lexeme} {v s' : State} (s : State) → default_of l.sort ≡ Some default → Keeps s v → Gots text (AName ∷ ClassTail ∷ ItemsEnd ∷ []) v ts s' r → SomeItems text s (l ∷ ts) r
class_items {default = default} {l = l} {ts = ts} s e k0 (one_done n k1 _ (one_done {v = w} g k2 _ (one_done y _ _ all_done))) =
    more_items s w (g default l n.0 (l ∷ ts) ts (record { front = refl; key = e }) n.1) (λ c. k2 (k1 (k0 c))) y

earlier : {text : List ℕ} {a r : List Lexeme} (s v : State) → Keeps s v → SomeItems text v a r → SomeItems text s a r
earlier s v ks (is, o, b, e, h, i, m, k) = (is, o, b, e, h, i, m, λ c. k (ks c))

pub items : (text : List ℕ) (t : Sort) (l : Lexeme) (ts r : List Lexeme) (s v s' : State) → l.sort ≡ t → Keeps s v → NextGots text (after ItemsEnd t) v ts s' r → Got text ItemsEnd s (l ∷ ts) s' r
items text End l ts r s v s' is ks all_done = ([], None, l ∷ ts, l, no_item, here is, refl, λ c. refl)
items text Struct l ts r s v s' is ks h = class_items s (ap default_of is) ks h
items text Class l ts r s v s' is ks h = class_items s (ap default_of is) ks h
items text Int l ts r s v s' is ks (one_done {v = w} g k1 _ (one_done y _ _ all_done)) = let x = g l (l ∷ ts) (here is) in earlier s v ks (main_items v w x.0 x.1 x.2 k1 y)
items text t l ts r s v s' is ks h = let f = value_front text t (Only Semicolon ∷ ItemsEnd ∷ []) l ts r v s' is h in global_items s f.value f.reads f.named (λ c. f.keeps (ks c)) f.more
