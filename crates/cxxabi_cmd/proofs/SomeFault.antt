-- The classes of a source have a first fault, or none.
use Rattle.std.proofs.Common.{◌≡◌, ℕ, zero, suc, ◌<◌, ◌≤◌, ◌⊎◌, ⊎_elim, inl, inr, Some, length, refl, ap, subst, arith}
use Rattle.std.proofs.lemmas.Bool.{cases_order}
use Rattle.cxx_hierarchy.specs.declared.records.ClassId.{ClassId}
use Rattle.cxx_hierarchy.specs.declared.stop.Stop.{Stop}
use Rattle.cxx_hierarchy.specs.Classes.{Class, Classes, class_at, class_by_number}
use Rattle.cxx_overrider.specs.Faults.{Spot, spot, size_part, place_part, IsBefore, Fault as MeaningFault, IsFirstFaultIn, HasNoFaultIn}
use Rattle.abi_layout.specs.Refusals.{IsLargeClass, HasSharedPlace}
use Rattle.foundation.proofs.Places.{get_within}
use Rattle.cxxabi_cmd.specs.Verdict.{SourceFault, of_meaning, large, shared, StopsFirst, MeetsNoFault}
use Rattle.cxxabi_cmd.proofs.ClassFaults.{NoMeaningTo, before_size, before_place, at_class, class_before, none_of_known}
use Rattle.cxxabi_cmd.proofs.MeaningFaults.{part_below}

-- what is decided of each class of a hierarchy
pub record IsDecided (h : Classes) : Type 0 where
  pub meaning : (c : ClassId) → ((stop : Stop) × IsFirstFaultIn h c stop) ⊎ HasNoFaultIn h c
  pub size : (c : ClassId) → c.0 < length h → IsLargeClass h c ⊎ (IsLargeClass h c → ⊥)
  pub places : (c : ClassId) → c.0 < length h → HasSharedPlace h c ⊎ (HasSharedPlace h c → ⊥)

-- the first n classes have no fault
abbrev NoneBelow : Classes → ℕ → Type 0
NoneBelow h n = (at : Spot) (stop : Stop) → SourceFault h at stop → at.class.0 < n → ⊥

one_class : (c d : ClassId) → c.0 ≡ d.0 → c ≡ d
one_class c d e = ap (λ (n : ℕ). let x : ClassId = record { 0 = n } in x) e

-- a spot before another is of an earlier class or of its class
earlier_or_here : (h : Classes) (n : ℕ) (last : Spot) → last.class.0 ≡ n → NoneBelow h n → (at : Spot) (stop : Stop) → SourceFault h at stop → IsBefore at last → (at.class.0 ≡ n → ⊥) → ⊥
earlier_or_here h n last here none at stop fault before same =
    let le = class_before at last before in
    ⊎_elim same (λ differ. ⊎_elim (λ lower. none at stop fault lower) (λ higher. omega arith) differ) (cases_order at.class.0 n)

at_class_of : (c : ClassId) (at : Spot) → at.class ≡ c → at ≡ spot c at.part at.item at.test
at_class_of c at same = ap (λ (d : ClassId). spot d at.part at.item at.test) same

meaning_first : (h : Classes) (n : ℕ) (stop : Stop) → NoneBelow h n → IsFirstFaultIn h (class_by_number n) stop → StopsFirst h stop
meaning_first h n stop none is =
    let here = spot (class_by_number n) is.part is.item is.test in
    record {
      at = here;
      fault = of_meaning here stop is.fault;
      first = λ at other met before.
          earlier_or_here h n here refl none at other met before
          (λ same. let e = at_class_of (class_by_number n) at (one_class at.class (class_by_number n) same) in
          is.first at.part at.item at.test other
          (subst (λ (x : Spot). MeaningFault h x other) e (at_class h (class_by_number n) is.part is.item is.test (part_below h here stop is.fault) at other met before same))
          (subst (λ (x : Spot). IsBefore x here) e before));
    }

none_in : (h : Classes) (n : ℕ) → HasNoFaultIn h (class_by_number n) → (at : Spot) (stop : Stop) → MeaningFault h at stop → at.class ≡ class_by_number n → ⊥
none_in h n fine at stop fault same = fine.none at.part at.item at.test stop (subst (λ (x : Spot). MeaningFault h x stop) (at_class_of (class_by_number n) at same) fault)

-- no meaning refuses the classes up to the n-th
up_to : (h : Classes) (n : ℕ) → NoneBelow h n → HasNoFaultIn h (class_by_number n) → NoMeaningTo h (class_by_number n)
up_to h n none fine at stop fault le =
    ⊎_elim (λ same. none_in h n fine at stop fault (one_class at.class (class_by_number n) same))
    (λ differ. ⊎_elim (λ lower. none at stop (of_meaning at stop fault) lower) (λ higher. omega arith) differ)
    (cases_order at.class.0 n)

-- one class more has no fault
further : (h : Classes) (n : ℕ) → NoneBelow h n → HasNoFaultIn h (class_by_number n) → (IsLargeClass h (class_by_number n) → ⊥) → (HasSharedPlace h (class_by_number n) → ⊥) → NoneBelow h (suc n)
further h n none fine small apart _ _ (of_meaning at stop fault) lt =
    ⊎_elim (λ same. none_in h n fine at stop fault (one_class at.class (class_by_number n) same))
    (λ differ. ⊎_elim (λ lower. none at stop (of_meaning at stop fault) lower) (λ higher. omega arith) differ)
    (cases_order at.class.0 n)
further h n none fine small apart _ _ (large c known is) lt =
    ⊎_elim (λ same. small (subst (IsLargeClass h) (one_class c (class_by_number n) same) is))
    (λ differ. ⊎_elim (λ lower. none _ _ (large c known is) lower) (λ higher. omega arith) differ)
    (cases_order c.0 n)
further h n none fine small apart _ _ (shared c class at is) lt =
    ⊎_elim (λ same. apart (subst (HasSharedPlace h) (one_class c (class_by_number n) same) is))
    (λ differ. ⊎_elim (λ lower. none _ _ (shared c class at is) lower) (λ higher. omega arith) differ)
    (cases_order c.0 n)

-- the first fault of the first n classes, or that they have none
abbrev Found : Classes → ℕ → Type 0
Found h n = ((stop : Stop) × StopsFirst h stop) ⊎ NoneBelow h n

size_first : (h : Classes) (n : ℕ) → n < length h → NoneBelow h n → NoMeaningTo h (class_by_number n) → IsLargeClass h (class_by_number n) → (stop : Stop) × StopsFirst h stop
size_first h n known none meaning is = (
  _,
  record {
    at = spot (class_by_number n) size_part 0 0;
    fault = large (class_by_number n) known is;
    first = λ at other met before. earlier_or_here h n (spot (class_by_number n) size_part 0 0) refl none at other met before (before_size h (class_by_number n) meaning at other met before);
  },
)

place_first : (h : Classes) (n : ℕ) (class : Class) → class_at h (class_by_number n) ≡ Some class → NoneBelow h n → NoMeaningTo h (class_by_number n) → (IsLargeClass h (class_by_number n) → ⊥) → HasSharedPlace h (class_by_number n) → (stop : Stop) × StopsFirst h stop
place_first h n class there none meaning small is = (
  _,
  record {
    at = spot (class_by_number n) place_part 0 0;
    fault = shared (class_by_number n) class there is;
    first = λ at other met before. earlier_or_here h n (spot (class_by_number n) place_part 0 0) refl none at other met before (before_place h (class_by_number n) meaning small at other met before);
  },
)

fine_more : (h : Classes) (n : ℕ) → IsDecided h → n < length h → NoneBelow h n → HasNoFaultIn h (class_by_number n) → Found h (suc n)
fine_more h n decided known none meaning =
    ⊎_elim (λ is. inl (size_first h n known none (up_to h n none meaning) is))
    (λ small. ⊎_elim
    (λ is. let class = get_within h n known in inl (place_first h n class.0 class.1 none (up_to h n none meaning) small is))
    (λ apart. inr (further h n none meaning small apart))
    (decided.places (class_by_number n) known))
    (decided.size (class_by_number n) known)

one_more : (h : Classes) (n : ℕ) → IsDecided h → n < length h → NoneBelow h n → Found h (suc n)
one_more h n decided known none =
    ⊎_elim (λ refused. inl (refused.0, meaning_first h n refused.0 none refused.1)) (λ meaning. fine_more h n decided known none meaning) (decided.meaning (class_by_number n))

found : (h : Classes) → IsDecided h → (n : ℕ) → n ≤ length h → Found h n
found h decided zero le = inr (λ at stop fault lt. omega arith)
found h decided (suc n) le =
    ⊎_elim (λ first. inl first) (λ none. one_more h n decided (omega arith) none) (found h decided n (omega arith))

-- the classes have a first fault, or none
pub some_fault : (h : Classes) → IsDecided h → ((stop : Stop) × StopsFirst h stop) ⊎ MeetsNoFault h
some_fault h decided =
    ⊎_elim (λ first. inl first)
    (λ none. inr (none_of_known h none))
    (found h decided (length h) (omega arith))
