-- A hierarchy has one first fault.
use Rattle.std.proofs.Common.{◌≡◌, ℕ, ◌≤◌, ◌⊎◌, Some, ⊎_elim, inl, inr, refl, sym, ◌∙◌, ap, arith}
use Rattle.std.proofs.lemmas.Bool.{cases_order}
use Rattle.cxx_hierarchy.specs.declared.records.ClassId.{ClassId}
use Rattle.cxx_hierarchy.specs.declared.stop.Stop.{Stop}
use Rattle.cxx_hierarchy.specs.declared.stop.Stop.TheVariants.{Refused}
use Rattle.cxx_hierarchy.specs.declared.stop.Rule.TheVariants.{SharedPlace}
use Rattle.cxx_hierarchy.specs.Classes.{Class, Classes, class_at}
use Rattle.cxx_overrider.specs.Faults.{Spot, spot, size_part, place_part, IsBefore, by_class, by_part, by_item, by_test, Fault as MeaningFault}
use Rattle.cxxabi_cmd.specs.Verdict.{SourceFault, of_meaning, large, shared, StopsFirst, MeetsNoFault}
use Rattle.cxxabi_cmd.proofs.MeaningFaults.{one_stop, part_below}

same_number : (a b : ClassId) → a.0 ≡ b.0 → a ≡ b
same_number a b same = ap (λ (n : ℕ). let c : ClassId = record { 0 = n } in c) same

same_spot : (a b : Spot) → a.class ≡ b.class → a.part ≡ b.part → a.item ≡ b.item → a.test ≡ b.test → a ≡ b
same_spot a b class part item test =
    ap (λ (c : ClassId). spot c a.part a.item a.test) class
    ∙ (ap (λ (n : ℕ). spot b.class n a.item a.test) part
    ∙ (ap (λ (n : ℕ). spot b.class b.part n a.test) item
    ∙ ap (λ (n : ℕ). spot b.class b.part b.item n) test))

-- one comes first, or they are one
abbrev Ordered : Spot → Spot → Type 0
Ordered a b = IsBefore a b ⊎ ((a ≡ b) ⊎ IsBefore b a)

by_tests : (a b : Spot) → a.class ≡ b.class → a.part ≡ b.part → a.item ≡ b.item → Ordered a b
by_tests a b class part item =
    ⊎_elim (λ same. inr (inl (same_spot a b class part item same)))
    (λ differ. ⊎_elim (λ lower. inl (by_test a b class part item lower)) (λ higher. inr (inr (by_test b a (sym class) (sym part) (sym item) higher))) differ)
    (cases_order a.test b.test)

by_items : (a b : Spot) → a.class ≡ b.class → a.part ≡ b.part → Ordered a b
by_items a b class part =
    ⊎_elim (λ same. by_tests a b class part same)
    (λ differ. ⊎_elim (λ lower. inl (by_item a b class part lower)) (λ higher. inr (inr (by_item b a (sym class) (sym part) higher))) differ)
    (cases_order a.item b.item)

by_parts : (a b : Spot) → a.class ≡ b.class → Ordered a b
by_parts a b class =
    ⊎_elim (λ same. by_items a b class same)
    (λ differ. ⊎_elim (λ lower. inl (by_part a b class lower)) (λ higher. inr (inr (by_part b a (sym class) higher))) differ)
    (cases_order a.part b.part)

-- of two spots one is asked first, or they are one
in_order : (a b : Spot) → Ordered a b
in_order a b =
    ⊎_elim (λ same. by_parts a b (same_number a.class b.class same))
    (λ differ. ⊎_elim (λ lower. inl (by_class a b lower)) (λ higher. inr (inr (by_class b a higher))) differ)
    (cases_order a.class.0 b.class.0)

size_behind : (h : Classes) (at : Spot) (stop : Stop) (c : ClassId) (part : ℕ) → size_part ≤ part → MeaningFault h at stop → at ≡ spot c part 0 0 → ⊥
size_behind h at stop c part le fault same = let below = part_below h at stop fault in let is : at.part ≡ part = ap (λ (s : Spot). s.part) same in omega arith

differ : (c d : ClassId) → spot c size_part 0 0 ≡ spot d place_part 0 0 → ⊥
differ c d same = let is : size_part ≡ place_part = ap (λ (s : Spot). s.part) same in omega arith

-- one condition is asked at a spot
fault_same : (h : Classes) (a b : Spot) (d e : Stop) → SourceFault h a d → SourceFault h b e → a ≡ b → d ≡ e
fault_same h _ _ _ _ (of_meaning a d one) (of_meaning b e other) same = one_stop h a b d e one other same
fault_same h _ _ _ _ (of_meaning a d one) (large c known is) same = absurd (size_behind h a d c size_part (omega arith) one same)
fault_same h _ _ _ _ (of_meaning a d one) (shared c class at is) same = absurd (size_behind h a d c place_part (omega arith) one same)
fault_same h _ _ _ _ (large c known is) (of_meaning b e other) same = absurd (size_behind h b e c size_part (omega arith) other (sym same))
fault_same h _ _ _ _ (large c known is) (large c' known' is') same = refl
fault_same h _ _ _ _ (large c known is) (shared c' class at is') same = absurd (differ c c' same)
fault_same h _ _ _ _ (shared c class at is) (of_meaning b e other) same = absurd (size_behind h b e c place_part (omega arith) other (sym same))
fault_same h _ _ _ _ (shared c class at is) (large c' known is') same = absurd (differ c' c (sym same))
fault_same h _ _ _ _ (shared c class at is) (shared c' class' at' is') same =
    let class_is : c ≡ c' = ap (λ (s : Spot). s.class) same in
    let one : class ≡ class' = (let both : Some class ≡ Some class' = sym at ∙ (ap (class_at h) class_is ∙ at') in cc) in
    ap (λ (k : Class). Refused SharedPlace k.at) one

-- the first fault is one
pub first_same : (h : Classes) (d e : Stop) → StopsFirst h d → StopsFirst h e → d ≡ e
first_same h d e one other =
    ⊎_elim (λ before. absurd (other.first one.at d one.fault before))
    (λ rest. ⊎_elim (λ same. fault_same h one.at other.at d e one.fault other.fault same) (λ behind. absurd (one.first other.at e other.fault behind)) rest)
    (in_order one.at other.at)

pub first_or_none : (h : Classes) (d : Stop) → StopsFirst h d → MeetsNoFault h → ⊥
first_or_none h d one none = none.none one.at d one.fault
