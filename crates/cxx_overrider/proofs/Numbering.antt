-- Numbers of signatures.
use Rattle.std.proofs.Common.{◌≡◌, ℕ, ◌+◌, ◌<◌, ◌≤◌, ◌⊎◌, ⊎_elim, Bool, true, false, Option, Some, None, IsSome, map, List, [], ◌∷◌, ◌++◌, length, refl, ap, subst, sym, ◌∙◌, arith}
use Rattle.std.specs.List.{slice_get}
use Rattle.cxx_hierarchy.specs.declared.records.ClassId.{ClassId}
use Rattle.std.specs.Prelude.{nat_eq}
use Rattle.std.proofs.lemmas.Bool.{eqb-true, eq-eqb, cases_lt}
use Rattle.cxx_hierarchy.specs.declared.records.Function.{Function}
use Rattle.cxx_hierarchy.specs.Hierarchies.{IsHierarchy}
use Rattle.cxx_hierarchy.specs.Classes.{Class, Classes, class_at, functions_in, functions_of}
use Rattle.cxx_overrider.specs.declared.FunctionId.{FunctionId}
use Rattle.cxx_overrider.specs.Functions.{Signature, named, destructor, signature_of, signature_in, signature_at}
use Rattle.cxx_overrider.specs.invariants.Numbers.{row_of, number_of, AreFirst, IsFirstOf, IsRow, IsNumbering}
use Rattle.cxx_overrider.proofs.Lists.{or_past}
use Rattle.foundation.proofs.Places.{get_front, get_last, get_pushed, get_within}
use Rattle.std.proofs.lemmas.Option.{slice_get_within, get_or_from_slice_get}

abbrev pub with_last : List FunctionId → FunctionId → List FunctionId
with_last firsts f = firsts ++ f ∷ []

pub first_kept : (h : Classes) (firsts : List FunctionId) (f g : FunctionId) (n : ℕ) → IsFirstOf h firsts g n → IsFirstOf h (firsts ++ f ∷ []) g n
first_kept h firsts f g n k = record { first = k.first; at_n = get_front firsts (f ∷ []) n k.first k.at_n; same = k.same }

pub first_new : (h : Classes) (firsts : List FunctionId) (f : FunctionId) → IsFirstOf h (firsts ++ f ∷ []) f (length firsts)
first_new h firsts f = record { first = f; at_n = get_last firsts f; same = refl }

pub firsts_pushed : (h : Classes) (firsts : List FunctionId) (f : FunctionId) → AreFirst h firsts → IsSome (signature_of h f) → f.class.0 < length h → ((i : ℕ) (g : FunctionId) → slice_get firsts i ≡ Some g → signature_of h g ≡ signature_of h f → ⊥) → AreFirst h (firsts ++ f ∷ [])
firsts_pushed h firsts f are known class_known fresh = record {
  known = λ i g e. ⊎_elim (λ a. are.known i g a) (λ b. subst (λ (x : FunctionId). IsSome (signature_of h x)) (sym b.1) known) (get_pushed firsts f i g e);
  classes = λ i g e. ⊎_elim (λ a. are.classes i g a) (λ b. subst (λ (x : FunctionId). x.class.0 < length h) (sym b.1) class_known) (get_pushed firsts f i g e);
  apart = λ i j x y ex ey same. ⊎_elim
      (λ a. ⊎_elim (λ b. are.apart i j x y a b same) (λ b. absurd (fresh i x a (subst (λ (z : FunctionId). signature_of h x ≡ signature_of h z) b.1 same))) (get_pushed firsts f j y ey))
      (λ a. ⊎_elim (λ b. absurd (fresh j y b (subst (λ (z : FunctionId). signature_of h y ≡ signature_of h z) a.1 (sym same)))) (λ b. let p = a.0 in let q = b.0 in omega arith) (get_pushed firsts f j y ey))
      (get_pushed firsts f i x ex);
}

-- each number of the row is the place of the first function of its signature
pub record HasFirsts (h : Classes) (firsts : List FunctionId) (c : ClassId) (row : List ℕ) : Type 0 where
  pub each : (i n : ℕ) → slice_get row i ≡ Some n → IsFirstOf h firsts (record { class = c; index = i }) n

pub no_firsts : (h : Classes) (firsts : List FunctionId) (c : ClassId) → HasFirsts h firsts c []
no_firsts h firsts c = record { each = λ i n e. cc }

pub firsts_more : (h : Classes) (old new : List FunctionId) (c : ClassId) (row : List ℕ) (index n : ℕ) → HasFirsts h old c row → ((g : FunctionId) (m : ℕ) → IsFirstOf h old g m → IsFirstOf h new g m) → length row ≡ index → IsFirstOf h new (record { class = c; index = index }) n → HasFirsts h new c (row ++ n ∷ [])
firsts_more h old new c row index n has kept size first = record {
  each = λ i m e. ⊎_elim (λ a. kept (record { class = c; index = i }) m (has.each i m a))
      (λ b. let at : i ≡ index = b.0 ∙ size in
      subst (λ (x : ℕ). IsFirstOf h new (record { class = c; index = i }) x) (sym b.1) (subst (λ (x : ℕ). IsFirstOf h new (record { class = c; index = x }) n) (sym at) first))
      (get_pushed row n i m e);
}

pub record HasRows (h : Classes) (firsts : List FunctionId) (rows : List (List ℕ)) : Type 0 where
  pub each : (c : ClassId) (row : List ℕ) → slice_get rows c.0 ≡ Some row → IsRow h firsts c row

pub no_rows : (h : Classes) (firsts : List FunctionId) → HasRows h firsts []
no_rows h firsts = record { each = λ c row e. cc }

pub rows_more : (h : Classes) (old new : List FunctionId) (rows : List (List ℕ)) (number : ℕ) (row : List ℕ) → HasRows h old rows → ((g : FunctionId) (m : ℕ) → IsFirstOf h old g m → IsFirstOf h new g m) → length rows ≡ number → IsRow h new (record { 0 = number }) row → HasRows h new (rows ++ row ∷ [])
rows_more h old new rows number row has kept size is = record {
  each = λ c r e. ⊎_elim
      (λ a. let k = has.each c r a in record { size = k.size; each = λ i n f. kept (record { class = c; index = i }) n (k.each i n f) })
      (λ b. let at : c.0 ≡ number = b.0 ∙ size in
      let same : c ≡ record { 0 = number } = same_class c number at in
      subst (λ (x : List ℕ). IsRow h new c x) (sym b.1) (subst (λ (x : ClassId). IsRow h new x row) (sym same) is))
      (get_pushed rows row c.0 r e);
}
  where
    same_class : (x : ClassId) (n : ℕ) → x.0 ≡ n → x ≡ record { 0 = n }
    same_class x n e = let make : ℕ → ClassId = λ m. record { 0 = m } in let f : make x.0 ≡ make n = ap make e in f

-- which functions there are
by_test : (b : Bool) (i n : ℕ) → nat_eq i n ≡ b → (s : Signature) → signature_at None b ≡ Some s → i ≡ n
by_test true i n e s k = eqb-true i n e
by_test false i n e s k = cc

by_declaration : (class : Class) (i : ℕ) (s : Signature) (o : Option (Function ClassId)) → slice_get class.functions i ≡ o → signature_at o (nat_eq i (length class.functions)) ≡ Some s → i < length class.functions + 1
by_declaration class i s (Some f) e k = let r = slice_get_within class.functions i f e in omega arith
by_declaration class i s None e k = let r = by_test (nat_eq i (length class.functions)) i (length class.functions) refl s k in omega arith

by_class : (o : Option Class) (i : ℕ) (s : Signature) → signature_in o i ≡ Some s → i < length (functions_in o) + 1
by_class None i s e = cc
by_class (Some class) i s e = by_declaration class i s (slice_get class.functions i) refl e

class_within : (h : Classes) (c : ClassId) (o : Option Class) (i : ℕ) (s : Signature) → class_at h c ≡ o → signature_in o i ≡ Some s → c.0 < length h
class_within h c None i s e k = cc
class_within h c (Some class) i s e k = slice_get_within h c.0 class e

pub signature_class : (h : Classes) (f : FunctionId) (s : Signature) → signature_of h f ≡ Some s → f.class.0 < length h
signature_class h f s e = class_within h f.class (class_at h f.class) f.index s refl e

pub signature_index : (h : Classes) (f : FunctionId) (s : Signature) → signature_of h f ≡ Some s → f.index < length (functions_of h f.class) + 1
signature_index h f s e = by_class (class_at h f.class) f.index s e

some_signature : (class : Class) (i : ℕ) (o : Option (Function ClassId)) → slice_get class.functions i ≡ o → i < length class.functions + 1 → (s : Signature) × (signature_at o (nat_eq i (length class.functions)) ≡ Some s)
some_signature class i (Some f) e lt = (named f.name (map (λ p. p.ty) f.params), refl)
some_signature class i None e lt = (destructor, rw (eq-eqb i (length class.functions) at_end) refl)
  where
    by_either : (i < length class.functions) ⊎ (length class.functions ≤ i) → i ≡ length class.functions
    by_either a = ⊎_elim (λ k. absurd (let t = get_within class.functions i k in let f = e in let g = t.1 in cc)) (λ k. omega arith) a

    at_end : i ≡ length class.functions
    at_end = by_either (cases_lt i (length class.functions))

pub signature_there : (h : Classes) (f : FunctionId) → f.class.0 < length h → f.index < length (functions_of h f.class) + 1 → (s : Signature) × (signature_of h f ≡ Some s)
signature_there h f lt small =
    let t = get_within h f.class.0 lt in
    let is : class_at h f.class ≡ Some t.0 = t.1 in
    let fits : f.index < length t.0.functions + 1 = subst (λ (o : Option Class). f.index < length (functions_in o) + 1) is small in
    let k = some_signature t.0 f.index (slice_get t.0.functions f.index) refl fits in
    (k.0, subst (λ (o : Option Class). signature_in o f.index ≡ Some k.0) (sym is) k.1)

pub some_is : {X : Type 0} (o : Option X) (x : X) → o ≡ Some x → IsSome o
some_is (Some y) x e = refl
some_is None x e = cc

pub some_value : {X : Type 0} (o : Option X) → IsSome o → (x : X) × (o ≡ Some x)
some_value (Some y) e = (y, refl)
some_value None e = cc

-- the whole numbering
module _ (h : Classes) (firsts : List FunctionId) (rows : List (List ℕ)) (keeps : IsHierarchy h) (are : AreFirst h firsts) (size : length rows ≡ length h) (has : HasRows h firsts rows) where
  at_row : (c : ClassId) → c.0 < length h → IsRow h firsts c (row_of rows c)
  at_row c lt =
      let small : c.0 < length rows = omega arith in
      let t = get_within rows c.0 small in
      subst (λ (x : List ℕ). IsRow h firsts c x) (sym (get_or_from_slice_get rows c.0 t.0 [] t.1)) (has.each c t.0 t.1)

  row_class : (c : ClassId) (i n : ℕ) → slice_get (row_of rows c) i ≡ Some n → (dec : (c.0 < length h) ⊎ (length h ≤ c.0)) → c.0 < length h
  row_class c i n e dec = ⊎_elim (λ a. a) (λ b. let past : row_of rows c ≡ [] = or_past rows c.0 [] (λ lt. omega arith) in absurd (let f : slice_get [] i ≡ Some n = subst (λ (x : List ℕ). slice_get x i ≡ Some n) past e in cc)) dec

  first_at : (f : FunctionId) (n : ℕ) → number_of rows f ≡ Some n → IsFirstOf h firsts f n
  first_at f n e = (at_row f.class (row_class f.class f.index n e (cases_lt f.class.0 (length h)))).each f.index n e

  short_row : (c : ClassId) → (c.0 < length h) ⊎ (length h ≤ c.0) → length (row_of rows c) ≤ 1025
  short_row c dec = ⊎_elim (λ a. let k = (at_row c a).size in let f = keeps.few_functions c in omega arith) (λ b. let past : length (row_of rows c) ≡ 0 = ap length (or_past rows c.0 [] (λ lt. omega arith)) in omega arith) dec

  numbered_there : (f : FunctionId) (s : Signature) → signature_of h f ≡ Some s → (n : ℕ) × (number_of rows f ≡ Some n)
  numbered_there f s e =
      let k = at_row f.class (signature_class h f s e) in
      let i = signature_index h f s e in
      let z = k.size in
      get_within (row_of rows f.class) f.index (omega arith)

  used_there : (n : ℕ) → n < length firsts → (f : FunctionId) × (number_of rows f ≡ Some n)
  used_there n lt =
      let t = get_within firsts n lt in
      let s = some_value (signature_of h t.0) (are.known n t.0 t.1) in
      let m = numbered_there t.0 s.0 s.1 in
      let a = first_at t.0 m.0 m.1 in
      let one : m.0 ≡ n = are.apart m.0 n a.first t.0 a.at_n t.1 a.same in
      (t.0, m.1 ∙ ap (λ x. Some x) one)

  pub numbering_made : IsNumbering h rows (length firsts)
  numbering_made = record {
    all = size;
    numbered = numbered_there;
    used = used_there;
    known = λ f n e.
        let c = row_class f.class f.index n e (cases_lt f.class.0 (length h)) in
        let k = at_row f.class c in
        let z = k.size in
        let w = slice_get_within (row_of rows f.class) f.index n e in
        signature_there h f c (omega arith);
    same = λ f g n ef eg.
        let a = first_at f n ef in
        let b = first_at g n eg in
        let one : a.first ≡ b.first = let x = a.at_n in let y = b.at_n in cc in
        sym a.same ∙ ap (signature_of h) one ∙ b.same;
    apart = λ f g n m ef eg e.
        let a = first_at f n ef in
        let b = first_at g m eg in
        are.apart n m a.first b.first a.at_n b.at_n (a.same ∙ e ∙ sym b.same);
    short = record { each = λ c. short_row c (cases_lt c.0 (length h)) };
    few = λ f n e. let a = first_at f n e in slice_get_within firsts n a.first a.at_n;
  }

-- a class declares at most one function of a signature
same_declared : (class : Class) (i j : ℕ) (s : Signature) → ((a b : ℕ) (x y : Function ClassId) → slice_get class.functions a ≡ Some x → slice_get class.functions b ≡ Some y → x.name ≡ y.name → a ≡ b) → (o p : Option (Function ClassId)) → slice_get class.functions i ≡ o → slice_get class.functions j ≡ p → (x y : Bool) → nat_eq i (length class.functions) ≡ x → nat_eq j (length class.functions) ≡ y → signature_at o x ≡ Some s → signature_at p y ≡ Some s → i ≡ j
same_declared class i j s once (Some a) (Some b) ei ej x y ex ey f g = let name : a.name ≡ b.name = cc in once i j a b ei ej name
same_declared class i j s once (Some a) None ei ej x true ex ey f g = cc
same_declared class i j s once (Some a) None ei ej x false ex ey f g = cc
same_declared class i j s once None (Some b) ei ej true y ex ey f g = cc
same_declared class i j s once None (Some b) ei ej false y ex ey f g = cc
same_declared class i j s once None None ei ej false y ex ey f g = cc
same_declared class i j s once None None ei ej true false ex ey f g = cc
same_declared class i j s once None None ei ej true true ex ey f g = eqb-true i (length class.functions) ex ∙ sym (eqb-true j (length class.functions) ey)

same_in : (o : Option Class) (i j : ℕ) (s : Signature) → ((a b : ℕ) (x y : Function ClassId) → slice_get (functions_in o) a ≡ Some x → slice_get (functions_in o) b ≡ Some y → x.name ≡ y.name → a ≡ b) → signature_in o i ≡ Some s → signature_in o j ≡ Some s → i ≡ j
same_in None i j s once e f = cc
same_in (Some class) i j s once e f = same_declared class i j s once (slice_get class.functions i) (slice_get class.functions j) refl refl (nat_eq i (length class.functions)) (nat_eq j (length class.functions)) refl refl e f

pub same_function : (h : Classes) → IsHierarchy h → (f g : FunctionId) (s : Signature) → f.class ≡ g.class → signature_of h f ≡ Some s → signature_of h g ≡ Some s → f ≡ g
same_function h keeps f g s e ef eg =
    let moved : signature_in (class_at h f.class) g.index ≡ Some s = ap (λ (x : ClassId). signature_in (class_at h x) g.index) e ∙ eg in
    let index = same_in (class_at h f.class) f.index g.index s (keeps.functions f.class) ef moved in
    let make : ClassId → ℕ → FunctionId = λ c i. record { class = c; index = i } in
    let one : make f.class f.index ≡ make g.class g.index = ap (λ c. make c f.index) e ∙ ap (λ i. make g.class i) index in one
