-- The first element of a list that passes a test.
use Rattle.std.proofs.Common.{◌≡◌, ℕ, zero, suc, ◌<◌, ⊎_elim, Bool, true, false, Some, List, [], ◌∷◌, length, refl, ap, sym, ◌∙◌, arith}
use Rattle.std.specs.Prelude.{position}
use Rattle.std.specs.List.{slice_get, position_or_len}
use Rattle.std.proofs.lemmas.Bool.{lt-ltb}
use Rattle.std.proofs.lemmas.Option.{slice_get_within}
use Rattle.cxx_hierarchy.specs.declared.records.ClassId.{ClassId}
use Rattle.abi_layout.proofs.lists.Lists.{number}
use Rattle.abi_layout.proofs.rules.Stages.{Has, split}

pub same_class : (a b : ClassId) → a.0 ≡ b.0 → a ≡ b
same_class a b e = let f : number a.0 ≡ number b.0 = ap number e in f

-- the first element that passes a test
pub record HasFirst {X : Type 0} (p : X → Bool) (xs : List X) : Type 0 where
  pub index : ℕ
  pub item : X
  pub there : slice_get xs index ≡ Some item
  pub passes : p item ≡ true
  pub is : position_or_len p xs ≡ index

pub first_that : {X : Type 0} (p : X → Bool) (xs : List X) (x : X) → Has xs x → p x ≡ true → HasFirst p xs
first_that p [] x has e = absurd has
first_that {X} p (y ∷ xs) x has e = split (p y) (λ b. p y ≡ b → HasFirst p (y ∷ xs))
    (λ t _. record { index = zero; item = y; there = refl; passes = t; is = rw t refl })
    (λ f _. ⊎_elim (λ same. absurd (clash f same)) (λ r. later f (first_that p xs x r e)) has) refl
  where
    clash : p y ≡ false → y ≡ x → ⊥
    clash f same = let g : p y ≡ true = ap p same ∙ e in let h : true ≡ false = sym g ∙ f in cc

    later : p y ≡ false → HasFirst p xs → HasFirst p (y ∷ xs)
    later f r = record { index = suc r.index; item = r.item; there = r.there; passes = r.passes; is = let i = r.is in rw f (omega arith) }

pub position_is : {X : Type 0} (p : X → Bool) (xs : List X) (r : HasFirst p xs) → position p xs ≡ Some r.index
position_is p xs r =
    let lt : position_or_len p xs < length xs = let w = slice_get_within xs r.index r.item r.there in let i = r.is in omega arith in
    let t = lt-ltb (position_or_len p xs) (length xs) lt in
    rw t (ap (λ n. Some n) r.is)
