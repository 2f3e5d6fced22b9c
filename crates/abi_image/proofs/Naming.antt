use Rattle.std.proofs.Common.{◌≡◌, ℕ, ◌+◌, ◌<◌, ◌≤◌, ⊎_elim, Bool, true, false, IsTrue, ◌↔◌, Some, List, length, get_or, refl, ap, sym, ◌∙◌, subst, arith}
use Rattle.std.specs.Prelude.{nat_eq}
use Rattle.std.specs.List.{slice_get}
use Rattle.std.proofs.lemmas.Bool.Decides.{nat_tests}
use Rattle.std.proofs.lemmas.Bool.{and_parts, cases_order}
use Rattle.std.proofs.lemmas.Option.{slice_get_within}
use Rattle.foundation.proofs.Truth.{split, never, not_both}
use Rattle.foundation.proofs.Places.{get_read}
use Rattle.cxx_subobject.specs.declared.Subobject.{Subobject}
use Rattle.cxx_subobject.specs.Subobjects.{same_subobject}
use Rattle.cxx_subobject.proofs.TreeLemmas.{subobject_same, same_itself}
use Rattle.abi_slots.specs.declared.words.GroupName.{GroupName}
use Rattle.abi_slots.specs.declared.words.Group.{Group}
use Rattle.abi_image.specs.Conditions.{HasTable}
use Rattle.abi_image.specs.invariants.Points.{NumbersGroup, same_group_name}

pub name_same : (a b : GroupName) → same_group_name a b ≡ true → a ≡ b
name_same a b e =
    let parts = and_parts (nat_eq a.complete.0 b.complete.0) (same_subobject a.view b.view) e in
    let number : a.complete.0 ≡ b.complete.0 = grind (arith, nat_tests) in
    let view : a.view ≡ b.view = subobject_same a.view b.view parts.1 in
    ap (λ (n : ℕ). record { complete = record { 0 = n }; view = a.view }) number ∙ ap (λ (s : Subobject). record { complete = b.complete; view = s }) view

pub name_itself : (a : GroupName) → same_group_name a a ≡ true
name_itself a = let n : nat_eq a.complete.0 a.complete.0 ≡ true = grind (arith, nat_tests) in rw (n, same_itself a.view) refl

-- the test of a name is that of a group's number
pub number_test : (groups : List Group) (name : GroupName) (number : ℕ) (group : Group) (test : Bool) → number < length groups → group ≡ get_or groups number group → test ≡ same_group_name group.name name → IsTrue test ↔ NumbersGroup groups name number
number_test groups name number group test less is e =
    let there : slice_get groups number ≡ Some group = get_read groups number group less is in
    split test (λ b. test ≡ b → IsTrue b ↔ NumbersGroup groups name number)
    (λ t f. (λ h. record { group = group; there = there; named = name_same group.name name (sym e ∙ t) }, λ h. refl))
    (λ t f. never (λ (k : NumbersGroup groups name number).
    let same : k.group ≡ group = (let p = k.there in cc) in
    let named : group.name ≡ name = ap (λ (g : Group). g.name) (sym same) ∙ k.named in
    let yes_it_is : same_group_name group.name name ≡ true = subst (λ (n : GroupName). same_group_name group.name n ≡ true) named (name_itself group.name) in
    let no_it_is : same_group_name group.name name ≡ false = sym e ∙ t in cc)) refl

-- no group has a number behind the last one
pub no_number : (groups : List Group) (name : GroupName) (number : ℕ) → length groups ≤ number → IsTrue false ↔ NumbersGroup groups name number
no_number groups name number over = never (λ (k : NumbersGroup groups name number). let b = slice_get_within groups number k.group k.there in absurd (omega arith))

pub table_number : (groups : List Group) (name : GroupName) (table : ℕ) (has : HasTable groups name table) → NumbersGroup groups name has.number
table_number groups name table has = record { group = has.group; there = has.there; named = has.named }

-- one that was looked at has not the name
pub none_more : (groups : List Group) (name : GroupName) (i : ℕ) (test : Bool) → ((k : ℕ) → k < i → NumbersGroup groups name k → ⊥) → test ≡ false → (IsTrue test ↔ NumbersGroup groups name i) → (k : ℕ) → k < i + 1 → NumbersGroup groups name k → ⊥
none_more groups name i test before is_false decides k less has = ⊎_elim
    (λ (same : k ≡ i). not_both (decides.1 (subst (λ n. NumbersGroup groups name n) same has)) is_false)
    (λ o. ⊎_elim (λ below. before k below has) (λ over. absurd (omega arith)) o)
    (cases_order k i)

-- a path without classes is not one with classes
