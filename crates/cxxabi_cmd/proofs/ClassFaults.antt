-- The first fault of the pass over the classes, from that of their meanings and that of their layout.
use Rattle.std.proofs.Common.{◌≡◌, ℕ, ◌<◌, ◌≤◌, ⊎_elim, List, length, refl, ap, subst, arith}
use Rattle.std.proofs.lemmas.Bool.{cases_order}
use Rattle.std.proofs.lemmas.Option.{slice_get_within}
use Rattle.cxx_hierarchy.specs.declared.records.ClassId.{ClassId}
use Rattle.cxx_hierarchy.specs.declared.stop.Stop.{Stop}
use Rattle.cxx_hierarchy.specs.declared.stop.Stop.TheVariants.{NoMemory}
use Rattle.cxx_hierarchy.specs.Classes.{Classes}
use Rattle.cxx_hierarchy.specs.Hierarchies.{IsHierarchy}
use Rattle.cxx_overrider.specs.Faults.{Spot, spot, size_part, place_part, IsBefore, by_class, by_part, by_item, by_test, Fault as MeaningFault, IsFirstFault as IsFirstMeaning, HasNoFault as HasNoMeaning, StopsIn}
use Rattle.cxx_overrider.proofs.PassLemmas.{fault_known}
use Rattle.abi_sound.specs.declared.class_layout.ClassLayout.{ClassLayout}
use Rattle.abi_layout.specs.Refusals.{IsWellLaid, IsLargeClass, StopsLayout, by_size, by_place, IsFirstStop}
use Rattle.abi_layout.proofs.rules.OneLayoutFirst.{not_large, not_shared, not_large_small}
use Rattle.cxxabi_cmd.specs.Verdict.{SourceFault, of_meaning, large, shared, StopsFirst, MeetsNoFault}
use Rattle.cxxabi_cmd.proofs.MeaningFaults.{part_below}

-- what is asked before a spot is of no later class, and in its class of no later part
pub class_before : (a b : Spot) → IsBefore a b → a.class.0 ≤ b.class.0
class_before _ _ (by_class a b lower) = omega arith
class_before _ _ (by_part a b same lower) = let e = ap (λ (x : ClassId). x.0) same in omega arith
class_before _ _ (by_item a b same part lower) = let e = ap (λ (x : ClassId). x.0) same in omega arith
class_before _ _ (by_test a b same part item lower) = let e = ap (λ (x : ClassId). x.0) same in omega arith

part_before : (a b : Spot) → IsBefore a b → a.class.0 ≡ b.class.0 → a.part ≤ b.part
part_before _ _ (by_class a b lower) same = absurd (omega arith)
part_before _ _ (by_part a b class lower) same = omega arith
part_before _ _ (by_item a b class part lower) same = omega arith
part_before _ _ (by_test a b class part item lower) same = omega arith

-- nothing is asked before a part at its first item
front_before : (c d : ClassId) (part : ℕ) → IsBefore (spot c part 0 0) (spot d part 0 0) → c.0 ≡ d.0 → ⊥
front_before c d part (by_class _ _ lower) same = omega arith
front_before c d part (by_part _ _ class lower) same = omega arith
front_before c d part (by_item _ _ class equal lower) same = omega arith
front_before c d part (by_test _ _ class equal item lower) same = omega arith

-- a fault at a class that is well laid is one of its meaning
laid_fine : (h : Classes) (count : ℕ) (rows : List ClassLayout) → IsHierarchy h → IsWellLaid h count rows → count ≤ length h → (at : Spot) (stop : Stop) → SourceFault h at stop → at.class.0 < count → MeaningFault h at stop
laid_fine h count rows keeps well le _ _ (of_meaning at stop fault) lt = fault
laid_fine h count rows keeps well le _ _ (large c known is) lt = absurd (not_large h count rows c keeps le lt well is)
laid_fine h count rows keeps well le _ _ (shared c class at is) lt = absurd (not_shared h count rows c keeps le lt well is)

-- a hierarchy has no fault where no class of it has one
pub none_of_known : (h : Classes) → ((at : Spot) (stop : Stop) → SourceFault h at stop → at.class.0 < length h → ⊥) → MeetsNoFault h
none_of_known h none = record { none = λ at stop fault. none at stop fault (known at stop fault) }
  where
    known : (at : Spot) (stop : Stop) → SourceFault h at stop → at.class.0 < length h
    known _ _ (of_meaning at stop fault) = fault_known h at stop fault
    known _ _ (large c is_known is) = is_known
    known _ _ (shared c class at is) = slice_get_within h c.0 class at

-- no fault is met where the meanings have none and all classes are well laid
pub none_met : (h : Classes) (rows : List ClassLayout) → IsHierarchy h → HasNoMeaning h → IsWellLaid h (length h) rows → MeetsNoFault h
none_met h rows keeps meaning well = none_of_known h (λ at stop fault known. meaning.none at stop (laid_fine h (length h) rows keeps well (omega arith) at stop fault known))

-- no meaning refuses the classes up to this one
abbrev pub NoMeaningTo : Classes → ClassId → Type 0
NoMeaningTo h k = (at : Spot) (stop : Stop) → MeaningFault h at stop → at.class.0 ≤ k.0 → ⊥

-- before the size of a class, and before its shared places
pub before_size : (h : Classes) (k : ClassId) → NoMeaningTo h k → (at : Spot) (stop : Stop) → SourceFault h at stop → IsBefore at (spot k size_part 0 0) → at.class.0 ≡ k.0 → ⊥
before_size h k none _ _ (of_meaning at stop fault) before same = none at stop fault (omega arith)
before_size h k none _ _ (large c known is) before same = front_before c k size_part before same
before_size h k none _ _ (shared c class at is) before same = let le = part_before (spot c place_part 0 0) (spot k size_part 0 0) before same in omega arith

pub before_place : (h : Classes) (k : ClassId) → NoMeaningTo h k → (IsLargeClass h k → ⊥) → (at : Spot) (stop : Stop) → SourceFault h at stop → IsBefore at (spot k place_part 0 0) → at.class.0 ≡ k.0 → ⊥
before_place h k none small _ _ (of_meaning at stop fault) before same = none at stop fault (omega arith)
before_place h k none small _ _ (large c known is) before same = small (subst (IsLargeClass h) (one_number c k same) is)
  where
    one_number : (c d : ClassId) → c.0 ≡ d.0 → c ≡ d
    one_number c d e = ap (λ (n : ℕ). let x : ClassId = record { 0 = n } in x) e
before_place h k none small _ _ (shared c class at is) before same = front_before c k place_part before same

earlier_or_same : (h : Classes) (k : ClassId) (rows : List ClassLayout) → IsHierarchy h → k.0 < length h → NoMeaningTo h k → IsWellLaid h k.0 rows → (at last : Spot) (stop : Stop) → last.class ≡ k → SourceFault h at stop → IsBefore at last → (at.class.0 ≡ k.0 → ⊥) → ⊥
earlier_or_same h k rows keeps known none well at last stop same fault before here =
    let le : at.class.0 ≤ k.0 = subst (λ (c : ClassId). at.class.0 ≤ c.0) same (class_before at last before) in
    ⊎_elim here
    (λ differ. ⊎_elim (λ lower. none at stop (laid_fine h k.0 rows keeps well (omega arith) at stop fault lower) le) (λ higher. omega arith) differ)
    (cases_order at.class.0 k.0)

stops_first : (h : Classes) (k : ClassId) (rows : List ClassLayout) (stop : Stop) → IsHierarchy h → k.0 < length h → NoMeaningTo h k → IsWellLaid h k.0 rows → StopsLayout h k stop → StopsFirst h stop
stops_first h k rows _ keeps known none well (by_size is) = record {
  at = spot k size_part 0 0;
  fault = large k known is;
  first = λ at stop fault before. earlier_or_same h k rows keeps known none well at (spot k size_part 0 0) stop refl fault before (before_size h k none at stop fault before);
}
stops_first h k rows _ keeps known none well (by_place class size there has small is) = record {
  at = spot k place_part 0 0;
  fault = shared k class there is;
  first = λ at stop fault before. earlier_or_same h k rows keeps known none well at (spot k place_part 0 0) stop refl fault before (before_place h k none (not_large_small h k size keeps has small) at stop fault before);
}

-- the layout stops where the meanings have no fault
pub layout_first : (h : Classes) (stop : Stop) → IsHierarchy h → HasNoMeaning h → IsFirstStop h (length h) stop → StopsFirst h stop
layout_first h stop keeps meaning first = stops_first h first.class first.rows stop keeps first.known (λ at s fault le. meaning.none at s fault) first.before first.stops

-- the layout of the classes before one stops, whose meaning refuses the source
pub layout_before : (h : Classes) (k : ClassId) (stop other : Stop) → IsHierarchy h → IsFirstMeaning h k other → IsFirstStop h k.0 stop → StopsFirst h stop
layout_before h k stop other keeps refused first =
    let known = fault_known h (spot k refused.part refused.item refused.test) other refused.fault in
    let below = first.known in
    stops_first h first.class first.rows stop keeps (omega arith)
    (λ at s fault le. refused.first at s fault (by_class at (spot k refused.part refused.item refused.test) (omega arith)))
    first.before first.stops

pub at_class : (h : Classes) (k : ClassId) (part item test : ℕ) → part < size_part → (at : Spot) (stop : Stop) → SourceFault h at stop → IsBefore at (spot k part item test) → at.class.0 ≡ k.0 → MeaningFault h at stop
at_class h k part item test low _ _ (of_meaning at stop fault) before same = fault
at_class h k part item test low _ _ (large c known is) before same = let le = part_before (spot c size_part 0 0) (spot k part item test) before same in absurd (omega arith)
at_class h k part item test low _ _ (shared c class at is) before same = let le = part_before (spot c place_part 0 0) (spot k part item test) before same in absurd (omega arith)

-- the classes before the one whose meaning refuses the source are well laid
pub meaning_first : (h : Classes) (k : ClassId) (stop : Stop) (rows : List ClassLayout) → IsHierarchy h → IsFirstMeaning h k stop → IsWellLaid h k.0 rows → StopsFirst h stop
meaning_first h k stop rows keeps refused well =
    let here = spot k refused.part refused.item refused.test in
    let known = fault_known h here stop refused.fault in
    let low = part_below h here stop refused.fault in
    record {
      at = here;
      fault = of_meaning here stop refused.fault;
      first = λ at other fault before.
          let le = class_before at here before in
          ⊎_elim (λ same. refused.first at other (at_class h k refused.part refused.item refused.test low at other fault before same) before)
          (λ differ. ⊎_elim (λ lower. refused.first at other (laid_fine h k.0 rows keeps well (omega arith) at other fault lower) before) (λ higher. omega arith) differ)
          (cases_order at.class.0 k.0);
    }

-- a pass over meanings that does not stop for want of memory has met a fault, of a class of the hierarchy
pub refused_meaning : (h : Classes) (k : ClassId) (stop : Stop) → StopsIn h k stop → (stop ≡ NoMemory → ⊥) → IsFirstMeaning h k stop
refused_meaning h k stop either never = ⊎_elim (λ memory. absurd (never memory)) (λ refused. refused) either

pub class_known : (h : Classes) (k : ClassId) (stop : Stop) → IsFirstMeaning h k stop → k.0 < length h
class_known h k stop refused = fault_known h (spot k refused.part refused.item refused.test) stop refused.fault
