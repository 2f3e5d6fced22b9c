-- Names for what the laws say of the state that a run has after n steps, and of final overriders.
use Rattle.std.specs.Prelude.{◌≡◌, ℕ, true, false, Some, List, ◌∷◌, Contains, slice_get}
use Rattle.cxx_hierarchy.specs.declared.records.ClassId.{ClassId}
use Rattle.cxx_hierarchy.specs.Classes.{Classes}
use Rattle.cxx_subobject.specs.declared.Subobject.{Subobject}
use Rattle.cxx_overrider.specs.declared.FunctionId.{FunctionId}
use Rattle.cxx_overrider.specs.declared.Overrider.{Overrider}
use Rattle.cxx_overrider.specs.Functions.{is_pure}
use Rattle.cxx_overrider.specs.Overriding.{IsFinalIn}
use Rattle.cxx_program.specs.declared.program.Owner.TheVariants.{Main}
use Rattle.cxx_program.specs.declared.program.TypedBody.{TypedBody}
use Rattle.cxx_program.specs.declared.program.TypedProgram.{TypedProgram}
use Rattle.path_plan.specs.Places.{ObjectPart}
use Rattle.path_plan.specs.Phases.{PartEvent, Done}
use Rattle.path_plan.specs.Views.{Fits}
use Rattle.path_model.specs.States.{RunningBody, Planned, Frame, InBody, InPlan}
use Rattle.path_model.specs.Steps.{class_of_part}
use Rattle.path_model.specs.Runs.{state_at}

-- the heap object k was made, of class c
abbrev pub WasMade : Classes → (ClassId → ℕ) → TypedProgram → (n k : ℕ) → ClassId → Type 0
WasMade h sizes program n k c = slice_get (state_at h sizes program n).objects.classes k ≡ Some c

-- the heap object k is open, or was closed
abbrev pub IsStillOpen : Classes → (ClassId → ℕ) → TypedProgram → (n k : ℕ) → Type 0
IsStillOpen h sizes program n k = (state_at h sizes program n).objects.is_closed k ≡ false

abbrev pub WasClosed : Classes → (ClassId → ℕ) → TypedProgram → (n k : ℕ) → Type 0
WasClosed h sizes program n k = (state_at h sizes program n).objects.is_closed k ≡ true

-- the plan is at work: it has a frame
abbrev pub IsPlanAtWork : Classes → (ClassId → ℕ) → TypedProgram → (n : ℕ) → Planned → Type 0
IsPlanAtWork h sizes program n f = Contains (state_at h sizes program n).frames (InPlan f)

-- no plan is at work on the heap object k
abbrev pub IsFreeOfPlans : Classes → (ClassId → ℕ) → TypedProgram → (n k : ℕ) → Type 0
IsFreeOfPlans h sizes program n k = (f : Planned) → IsPlanAtWork h sizes program n f → f.object ≡ k → ⊥

-- the body is on top of these frames
abbrev pub IsBodyOnTop : Classes → (ClassId → ℕ) → TypedProgram → (n : ℕ) → RunningBody → (below : List Frame) → Type 0
IsBodyOnTop h sizes program n g below = (state_at h sizes program n).frames ≡ InBody g ∷ below

-- the event can happen
abbrev pub FitsAfter : Classes → (ClassId → ℕ) → TypedProgram → (n : ℕ) → PartEvent → Type 0
FitsAfter h sizes program n e = Fits h (state_at h sizes program n).objects.phases e

-- the next event of the plan under a body on top can happen
abbrev pub FitsBehindBody : Classes → (ClassId → ℕ) → TypedProgram → (n : ℕ) → RunningBody → Planned → PartEvent → List PartEvent → List Frame → Type 0
FitsBehindBody h sizes program n g f e es below = IsBodyOnTop h sizes program n g (InPlan f ∷ below) → f.events ≡ e ∷ es → FitsAfter h sizes program n e

-- what runs first, if anything does, is the body of `main`
abbrev pub MainIsMain : TypedProgram → Type 0
MainIsMain program = (body : TypedBody) → program.main ≡ Some body → body.owner ≡ Main

-- the first of these frames is that of a construction, whose next event says that a part of class c is done
abbrev pub StandsOnConstruction : List Frame → ClassId → Type 0
StandsOnConstruction below c = (f : Planned) × (rest : List Frame) × (p : ObjectPart) × (es : List PartEvent) × (below ≡ InPlan f ∷ rest) × (f.is_building ≡ true) × (f.events ≡ Done p ∷ es) × (class_of_part p ≡ c)

-- the first of these frames is that of a destruction
abbrev pub StandsOnDestruction : List Frame → Type 0
StandsOnDestruction below = (f : Planned) × (rest : List Frame) × (below ≡ InPlan f ∷ rest) × (f.is_building ≡ false)

-- the final overrider of the function in the subobject x, for the subobject y, is pure
abbrev pub IsFinalPure : Classes → ClassId → (x y : Subobject) → FunctionId → Type 0
IsFinalPure h c x y f = (o : Overrider) × IsFinalIn h c x y f o × (is_pure h o.function ≡ true)
