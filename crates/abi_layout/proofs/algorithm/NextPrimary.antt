-- The primary base of the next class stands before it.
use Rattle.std.proofs.Common.{◌≡◌, ℕ, zero, suc, ◌<◌, ⊎_elim, Option, Some, None, List, [], ◌∷◌, ◌++◌, length, get_or, refl, ap, subst, sym, arith}
use Rattle.std.specs.List.{slice_get}
use Rattle.cxx_hierarchy.specs.declared.records.ClassId.{ClassId}
use Rattle.cxx_hierarchy.specs.Classes.{Classes}
use Rattle.cxx_hierarchy.specs.Hierarchies.{IsHierarchy}
use Rattle.abi_primary.specs.declared.Primary.{Primary}
use Rattle.abi_primary.specs.declared.Primary.TheVariants.{None as NoPrimary, Direct, Virtual}
use Rattle.abi_layout.specs.Holding.{virtual_in}
use Rattle.abi_layout.specs.PlacedBases.{IsPossible}
use Rattle.abi_layout.specs.Layouts.{primary_of}
use Rattle.abi_layout.specs.invariants.Scenes.{AreBefore}
use Rattle.abi_layout.proofs.lists.LastItems.{old_or_last}
use Rattle.cxx_subobject.proofs.PathLemmas.{virtual_below}

-- a virtual primary base stands before its class
pub possible_below : (h : Classes) (c : ClassId) (primary : Primary) (v : ClassId) → IsHierarchy h → IsPossible h c primary → primary ≡ Virtual v → v.0 < c.0
possible_below h c primary v keeps possible e = virtual_below h keeps c v (subst (λ (p : Primary). IsPossible h c p) e possible)

virtual_is : (o : Option Primary) (v : ClassId) → virtual_in o ≡ Some v → o ≡ Some (Virtual v)
virtual_is None v e = let f : None ≡ Some v = e in cc
virtual_is (Some NoPrimary) v e = let f : None ≡ Some v = e in cc
virtual_is (Some (Direct b)) v e = let f : None ≡ Some v = e in cc
virtual_is (Some (Virtual w)) v e = let same : w ≡ v = cc in ap (λ (x : ClassId). Some (Virtual x)) same

-- with the primary base of one class more
pub before_more : (h : Classes) (ps : List Primary) (c : ClassId) (primary : Primary) → IsHierarchy h → AreBefore ps → length ps ≡ c.0 → IsPossible h c primary → AreBefore (ps ++ primary ∷ [])
before_more h ps c primary keeps before count possible = record {
  falls = λ d v e. ⊎_elim
      (λ old. before.falls d v (ap virtual_in old))
      (λ new. let position = new.0 in let lt = possible_below h c primary v keeps possible new.1 in omega arith)
      (old_or_last ps primary d.0 (Virtual v) (virtual_is (slice_get (ps ++ primary ∷ []) d.0) v e));
}

pub get_or_last : {X : Type 0} (xs : List X) (x d : X) (i : ℕ) → i ≡ length xs → get_or (xs ++ x ∷ []) i d ≡ x
get_or_last [] x d zero e = refl
get_or_last [] x d (suc i) e = absurd (omega arith)
get_or_last (y ∷ xs) x d zero e = absurd (omega arith)
get_or_last (y ∷ xs) x d (suc i) e = get_or_last xs x d i (omega arith)

-- the primary base of the last class
pub last_primary : (ps : List Primary) (c : ClassId) (primary : Primary) → length ps ≡ c.0 → primary_of (ps ++ primary ∷ []) c ≡ primary
last_primary ps c primary count = get_or_last ps primary NoPrimary c.0 (sym count)
