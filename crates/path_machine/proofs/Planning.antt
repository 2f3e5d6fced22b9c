-- The frame of a plan of a heap object.
use Rattle.std.proofs.Common.{◌≡◌, ℕ, Bool, true, false, ◌⊎◌, inl, inr, Some, List, [], ◌∷◌, ap, sym, ◌∙◌}
use Rattle.std.specs.Prelude.{if◌then◌else◌}
use Rattle.cxx_hierarchy.specs.declared.records.ClassId.{ClassId}
use Rattle.cxx_hierarchy.specs.Classes.{Classes}
use Rattle.cxx_subobject.specs.Subobjects.{class_of}
use Rattle.cxx_subobject.specs.Locations.{ObjectPart}
use Rattle.path_plan.specs.Phases.{PartEvent, Done, End, part_of}
use Rattle.path_plan.specs.Plans.{Bodies}
use Rattle.path_plan.specs.Whole.{whole_part, construction, destruction}
use Rattle.path_plan.proofs.Last.{EndsLast, construction_ends, destruction_ends}
use Rattle.path_numbers.specs.Sizes.{sizes_of}
use Rattle.path_numbers.proofs.Heap.{at_good}
use Rattle.path_heap.specs.declared.state.NumberedPart.{NumberedPart}
use Rattle.path_heap.specs.Points.{StandsForPart}
use Rattle.path_machine.specs.Frames.{IsLastOf}

-- the last event is one of the part
last_of : (p : ObjectPart) (events : List PartEvent) → EndsLast p events → IsLastOf p events
last_of p [] a = tt
last_of p (e ∷ []) a = ends_with e a
  where
    ends_with : (e : PartEvent) → (e ≡ Done p) ⊎ (e ≡ End p) → part_of e ≡ p
    ends_with e (inl is) = ap part_of is
    ends_with e (inr is) = ap part_of is
last_of p (e ∷ (f ∷ events)) a = last_of p (f ∷ events) a

-- that of a plan is one of the whole
pub plan_last : (h : Classes) (bodies : Bodies) (k : ℕ) (c : ClassId) (is_building : Bool) → IsLastOf (whole_part k c) (if is_building then construction h bodies k c else destruction h bodies k c)
plan_last h bodies k c true = last_of (whole_part k c) (construction h bodies k c) (construction_ends h bodies k c)
plan_last h bodies k c false = last_of (whole_part k c) (destruction h bodies k c) (destruction_ends h bodies k c)

-- the whole of an object of a class is of this class
pub whole_class : (h : Classes) (classes : List ClassId) (k : ℕ) (c : ClassId) (code : NumberedPart) → StandsForPart h classes code (whole_part k c) → code.class ≡ c
whole_class h classes k c code a =
    let of_node : Some c ≡ Some a.node.class = ap (λ (p : ObjectPart). class_of p.at) (sym a.is_part) ∙ (at_good h (sizes_of h) classes a.node a.at).class in
    let same : c ≡ a.node.class = cc in
    sym (same ∙ a.is_class)
