-- The first base of a kind, and the first subobject that passes a test.
use Rattle.std.proofs.Common.{◌≡◌, ℕ, ◌-◌, ◌<◌, ◌≤◌, Bool, true, false, Some, None, List, [], ◌∷◌, length, get_or, refl, ap, subst, sym, ◌∙◌, arith, cond, ltb}
use Rattle.std.specs.Prelude.{position}
use Rattle.std.specs.List.{slice_get, find, position_or_len}
use Rattle.std.proofs.lemmas.Bool.{ltb-true, ltb-false}
use Rattle.std.proofs.lemmas.List.Folds.{find_at}
use Rattle.std.proofs.lemmas.Option.{slice_get-get_or, get_or_from_slice_get, slice_get_read, slice_get_past}
use Rattle.cxx_hierarchy.specs.declared.records.ClassId.{ClassId}
use Rattle.cxx_hierarchy.specs.declared.records.Base.{Base}
use Rattle.cxx_hierarchy.specs.Classes.{Classes}
use Rattle.cxx_subobject.specs.declared.Subobject.{Subobject}
use Rattle.cxx_subobject.specs.Subobjects.{last_of, class_of_path, class_of}
use Rattle.abi_primary.specs.PrimaryBase.{IsDynamicBase, IsFirstDynamic}
use Rattle.abi_primary.proofs.Nth.{no_base, nth, EachNth}

pub record IsNoDynamic (h : Classes) (base : Base ClassId) : Type 0 where
  pub none : IsDynamicBase h base → ⊥

pub first_at : (h : Classes) (bases : List (Base ClassId)) (i : ℕ) → i < length bases → EachNth (IsNoDynamic h) bases i → IsDynamicBase h (nth bases i) → IsFirstDynamic h bases (nth bases i).class
first_at h bases i lt before dynamic = record {
  number = i;
  base = nth bases i;
  there = slice_get-get_or bases i no_base lt;
  class = refl;
  dynamic = dynamic;
  before = λ j other less there x. (before.each j less).none (subst (IsDynamicBase h) (sym (get_or_from_slice_get bases j other no_base there)) x);
}

last_at : (c : ClassId) (path : List ClassId) (d : ClassId) → get_or (c ∷ path) (length path) d ≡ last_of c path
last_at c [] d = refl
last_at c (b ∷ path) d = last_at b path d

last_is : (path : List ClassId) (d : ClassId) → 1 ≤ length path → Some (get_or path (length path - 1) d) ≡ class_of_path path
last_is [] d le = absurd (omega arith)
last_is (c ∷ path) d le = let e : length (c ∷ path) - 1 ≡ length path = omega arith in ap (λ i. Some (get_or (c ∷ path) i d)) e ∙ ap (λ x. Some x) (last_at c path d)

pub class_is : (s : Subobject) (path : List ClassId) (d : ClassId) → path ≡ s.path → 1 ≤ length path → Some (get_or path (length path - 1) d) ≡ class_of s
class_is s path d e le = last_is path d le ∙ ap class_of_path e

-- the first element that passes a test, by its position
pub found : {X : Type 0} (p : X → Bool) (xs : List X) (i : ℕ) (x : X) → position p xs ≡ Some i → x ≡ get_or xs i x → find p xs ≡ Some x
found {X} p xs i x at is = by_test (ltb (position_or_len p xs) (length xs)) refl
  where
    by_test : (b : Bool) → ltb (position_or_len p xs) (length xs) ≡ b → find p xs ≡ Some x
    by_test true t =
        let lt = ltb-true (position_or_len p xs) (length xs) t in
        let same : Some (position_or_len p xs) ≡ Some i = ap (λ b. cond b (Some (position_or_len p xs)) None) (sym t) ∙ at in
        let n : position_or_len p xs ≡ i = cc in
        find_at p xs ∙ (ap (slice_get xs) n ∙ slice_get_read xs (length xs) i x refl (omega arith) is)
    by_test false f = let none : None ≡ Some i = ap (λ b. cond b (Some (position_or_len p xs)) None) (sym f) ∙ at in cc

pub not_found : {X : Type 0} (p : X → Bool) (xs : List X) → position p xs ≡ None → find p xs ≡ None
not_found {X} p xs at = by_test (ltb (position_or_len p xs) (length xs)) refl
  where
    by_test : (b : Bool) → ltb (position_or_len p xs) (length xs) ≡ b → find p xs ≡ None
    by_test true t = let some : Some (position_or_len p xs) ≡ None = ap (λ b. cond b (Some (position_or_len p xs)) None) (sym t) ∙ at in cc
    by_test false f = find_at p xs ∙ slice_get_past xs (position_or_len p xs) (ltb-false (position_or_len p xs) (length xs) f)
