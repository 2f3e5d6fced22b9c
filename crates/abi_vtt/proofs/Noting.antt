-- One more part of a chain gets the number of its table.
use Rattle.std.proofs.Common.{◌≡◌, ℕ, zero, suc, ◌-◌, ◌<◌, ◌⊎◌, inl, inr, ⊎_elim, Option, Some, None, List, [], ◌∷◌, ◌++◌, length, take, set, get_or, length-set, refl, ap, subst, sym, ◌∙◌, arith}
use Rattle.std.specs.Prelude.{slice_get}
use Rattle.std.proofs.lemmas.Bool.{cases_order}
use Rattle.foundation.proofs.Places.{get_read, get_set_other, get_set}
use Rattle.cxx_subobject.specs.declared.Subobject.{Subobject}
use Rattle.abi_slots.specs.Views.{along_chain}
use Rattle.abi_slots.proofs.Chains.{same_some}
use Rattle.abi_vtable.specs.declared.view.ViewPart.{ViewPart}
use Rattle.abi_vtable.specs.invariants.Parts.{NumbersSubobject}
use Rattle.abi_vtable.proofs.Declaring.{number_some}
use Rattle.abi_vtt.specs.invariants.Served.{AreNumbered, HasNote, IsFrom, from_before, from_chain, IsNoted}

-- lists in which an item was changed

pub front_of : {A : Type 0} (xs ys : List A) (n : ℕ) → length xs ≡ n → take n (xs ++ ys) ≡ xs
front_of xs ys n e = subst (λ m. take m (xs ++ ys) ≡ xs) e (whole xs)
  where
    whole : (zs : List _) → take (length zs) (zs ++ ys) ≡ zs
    whole [] = refl
    whole (z ∷ zs) = ap (λ a. z ∷ a) (whole zs)

-- one place or another
apart_or : (n i : ℕ) → (n ≡ i) ⊎ (n ≡ i → ⊥)
apart_or n i = ⊎_elim (λ e. inl e) (λ o. inr (λ e. ⊎_elim (λ a. omega arith) (λ b. omega arith) o)) (cases_order n i)

module _ (list : List Subobject) (go : Subobject → Option Subobject) (once : (i j : ℕ) (s : Subobject) → slice_get list i ≡ Some s → slice_get list j ≡ Some s → i ≡ j) where
  one_here : (u : Subobject) (number table steps : ℕ) (old new : List (Option ℕ)) → slice_get list number ≡ Some u → number < length old → IsNoted list go (go u) table steps (set old number (Some table)) new → IsNoted list go (Some u) table (suc steps) old new
  one_here u number table steps old new at within rest = record {
    size = rest.size ∙ length-set old number (Some table);
    sound = λ n k v there e. by_from n k v there (rest.sound n k v there e);
    stays = λ n note. rest.stays n (kept n note);
    noted = each;
  }
    where
      here : slice_get (set old number (Some table)) number ≡ Some (Some table)
      here = get_set old number (Some table) within

      by_from : (n k : ℕ) (v : Subobject) → slice_get list n ≡ Some v → IsFrom (go) (go u) table (set old number (Some table)) n k v → IsFrom go (Some u) table old n k v
      by_from n k v there (from_chain i same leads) = from_chain (suc i) same leads
      by_from n k v there (from_before e) = ⊎_elim
          (λ same.
          let f : slice_get (set old number (Some table)) number ≡ Some (Some k) = subst (λ m. slice_get (set old number (Some table)) m ≡ Some (Some k)) same e in
          let g : k ≡ table = same_some k table (same_some (Some k) (Some table) (sym f ∙ here)) in
          let one : u ≡ v = same_some u v (sym at ∙ subst (λ m. slice_get list m ≡ Some v) same there) in
          from_chain 0 g (ap (λ a. Some a) one))
          (λ apart. from_before (sym (get_set_other old number n (Some table) apart) ∙ e))
          (apart_or n number)

      kept : (n : ℕ) → HasNote old n → HasNote (set old number (Some table)) n
      kept n note = ⊎_elim
          (λ same. (table, subst (λ m. slice_get (set old number (Some table)) m ≡ Some (Some table)) (sym same) here))
          (λ apart. (note.0, get_set_other old number n (Some table) apart ∙ note.1))
          (apart_or n number)

      each : (i n : ℕ) (v : Subobject) → i < suc steps → along_chain go i (Some u) ≡ Some v → slice_get list n ≡ Some v → HasNote new n
      each zero n v lt leads there =
          let one : n ≡ number = once n number v there (at ∙ leads) in
          rest.stays n (table, subst (λ m. slice_get (set old number (Some table)) m ≡ Some (Some table)) (sym one) here)
      each (suc i) n v lt leads there = rest.noted i n v (omega arith) leads there

pub noted_none : (list : List Subobject) (go : Subobject → Option Subobject) (s : Option Subobject) (table steps : ℕ) (old : List (Option ℕ)) → s ≡ None → IsNoted list go s table steps old old
noted_none list go s table steps old e = record {
  size = refl;
  sound = λ n k v there f. from_before f;
  stays = λ n note. note;
  noted = λ i n v lt leads there. absurd (nowhere i v (subst (λ o. along_chain go i o ≡ Some v) e leads));
}
  where
    nowhere : (i : ℕ) (v : Subobject) → along_chain go i None ≡ Some v → ⊥
    nowhere zero v f = cc
    nowhere (suc i) v f = cc

pub noted_nothing : (list : List Subobject) (go : Subobject → Option Subobject) (s : Option Subobject) (table steps : ℕ) (old : List (Option ℕ)) → steps ≡ 0 → IsNoted list go s table steps old old
noted_nothing list go s table steps old e = record {
  size = refl;
  sound = λ n k v there f. from_before f;
  stays = λ n note. note;
  noted = λ i n v lt leads there. absurd (omega arith);
}

-- the part of the number, and then what follows it
pub noted_more : (list : List Subobject) (go : Subobject → Option Subobject) (s : Option Subobject) (parts : List ViewPart) (at : Option ℕ) (number : ℕ) (part : ViewPart) (table steps : ℕ) (old new : List (Option ℕ)) → AreNumbered list go parts → NumbersSubobject list at s → at ≡ Some number →
    number < length parts → part ≡ get_or parts number part → length old ≡ length parts → (steps ≡ 0 → ⊥) → (after : Option ℕ) → after ≡ part.next →
    ((s : Option Subobject) → AreNumbered list go parts → NumbersSubobject list after s → IsNoted list go s table (steps - 1) (set old number (Some table)) new) → IsNoted list go s table steps old new
noted_more list go s parts at number part table steps old new are of is lt there size some after follows rest =
    let u = number_some list at number s is of in
    let here = get_read parts number part lt there in
    let same : u.0 ≡ part.at = same_some u.0 part.at (sym u.2 ∙ are.there number part here) in
    let next = are.next number part here in
    let tail = rest (go u.0) are (subst (λ a. NumbersSubobject list a (go u.0)) (sym follows) (subst (λ a. NumbersSubobject list part.next (go a)) (sym same) next)) in
    let more : suc (steps - 1) ≡ steps = omega arith in
    subst (λ n. IsNoted list go s table n old new) more (subst (λ o. IsNoted list go o table (suc (steps - 1)) old new) (sym u.1) (one_here list go are.once u.0 number table (steps - 1) old new u.2 (omega arith) tail))
