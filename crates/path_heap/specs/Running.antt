-- The parts of each complete object whose constructors or destructors run, as numbers.
use Rattle.std.specs.Prelude.{◌≡◌, ◌+◌, ◌%◌, ◌^◌, ℕ, true, Option, Some, None, List, [], ◌∷◌, Contains, slice_get}
use Rattle.cxx_hierarchy.specs.declared.records.ClassId.{ClassId}
use Rattle.cxx_hierarchy.specs.Classes.{Classes}
use Rattle.cxx_subobject.specs.declared.Subobject.{Subobject}
use Rattle.path_plan.specs.Places.{Step, ObjectPart, part}
use Rattle.path_plan.specs.Phases.{Phase, Phases, is_running}
use Rattle.path_plan.specs.declared.form.Form.TheVariants.{InFull}
use Rattle.path_numbers.specs.Sizes.{sizes_of}
use Rattle.path_numbers.specs.Nodes.{Node}
use Rattle.path_numbers.specs.Heap.{IsAt}
use Rattle.path_heap.specs.Points.{Points}

-- the entry at a place, and none past the end
abbrev pub entry_in : Option (Option ℕ) → Option ℕ
entry_in None = None
entry_in (Some entry) = entry

abbrev pub entry_at : List (Option ℕ) → ℕ → Option ℕ
entry_at entries n = entry_in (slice_get entries n)

-- the subobjects of the complete object to which the steps lead, each running and standing once
abbrev pub AreRunning : (ObjectPart → Phase) → ℕ → List Step → List Subobject → Type 0
AreRunning phase k o [] = Unit {0}
AreRunning phase k o (x ∷ xs) = (is_running (phase (part k o x)) ≡ true) × (Contains xs x → ⊥) × AreRunning phase k o xs

-- the number that may stand so far behind that of the complete object
abbrev pub outer_at : (whole : ℕ) → Option ℕ → Option ℕ
outer_at whole None = None
outer_at whole (Some back) = Some ((whole + back) % 2 ^ 64)

-- the first number is that of the innermost one, and each has how far behind the complete object the one around it stands
abbrev pub StackStands : Classes → List ClassId → List (Option ℕ) → (whole k : ℕ) → List Step → Option ℕ → List Subobject → Type 0
StackStands h classes around whole k o None [] = Unit {0}
StackStands h classes around whole k o None (x ∷ xs) = ⊥
StackStands h classes around whole k o (Some n) [] = ⊥
StackStands h classes around whole k o (Some n) (x ∷ xs) = Points h classes n (part k o x) × StackStands h classes around whole k o (outer_at whole (entry_at around n)) xs

-- how far the innermost running part stands behind its complete object, and of each running part how far the one that ran when it began
pub record ViewsStand (h : Classes) (classes : List ClassId) (phases : Phases) (tops around : List (Option ℕ)) : Type 0 where
  pub running : (k : ℕ) (o : List Step) → AreRunning phases.phase k o (phases.running k o)
  pub stacks : (w : Node) → IsAt h (sizes_of h) classes w → w.form ≡ InFull
      → StackStands h classes around w.number w.part.object w.part.owner (outer_at w.number (entry_at tops w.number)) (phases.running w.part.object w.part.owner)
