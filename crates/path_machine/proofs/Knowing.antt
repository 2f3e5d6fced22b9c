-- What is known of the frame on top, from what is known of each state of a run.
use Rattle.std.proofs.Common.{◌≡◌, ℕ, Option, Some, None, List, [], ◌∷◌, refl, ap, subst, sym, ◌∙◌}
use Rattle.std.specs.Prelude.{slice_get}
use Rattle.cxx_hierarchy.specs.declared.records.ClassId.{ClassId}
use Rattle.cxx_hierarchy.specs.declared.records.ReturnType.TheVariants.{Value as ValueReturn}
use Rattle.cxx_hierarchy.specs.declared.records.ValueType.{ValueType}
use Rattle.cxx_hierarchy.specs.declared.records.ValueType.TheVariants.{Pointer as PointerType}
use Rattle.cxx_hierarchy.specs.Classes.{Classes}
use Rattle.cxx_program.specs.declared.operand.Conversion.{Conversion}
use Rattle.cxx_program.specs.declared.operand.Conversion.TheVariants.{Same as ToSame}
use Rattle.cxx_program.specs.declared.program.Owner.{Owner}
use Rattle.cxx_program.specs.declared.program.Owner.TheVariants.{Main, Function, Constructor, Destructor}
use Rattle.cxx_program.specs.declared.program.TypedBody.{TypedBody}
use Rattle.cxx_program.specs.declared.program.TypedProgram.{TypedProgram}
use Rattle.cxx_program.specs.Typed.{Types, Converts, to_same, IsTypedProgram, returns_of}
use Rattle.path_model.specs.States.{Target, RunningBody, Planned, Frame, InBody, InPlan, ProgramState, owned_body, target_conversion}
use Rattle.path_model.specs.Steps.{body_step, event_step, frame_step}
use Rattle.path_model.specs.Runs.{body_limit, frame_limit, move_by}
use Rattle.path_model.specs.TypedStates.{AreTypedFrames, FitsMadeObject, FitsResult, FitsTarget, IsCalledFrom, IsOpened, IsTypedState}
use Rattle.path_model.proofs.TypedBodies.{body_typed}
use Rattle.path_model.proofs.TypedFrames.{sight_typed}
use Rattle.path_machine.specs.declared.frames.Frame.{Frame as FrameCode}
use Rattle.path_machine.specs.declared.frames.BodyFrame.{BodyFrame}
use Rattle.path_machine.specs.declared.frames.PlanFrame.{PlanFrame}
use Rattle.path_machine.specs.declared.frames.Frame.TheVariants.{Body, Plan}
use Rattle.path_machine.specs.declared.machine.Machine.{Machine}
use Rattle.path_machine.specs.invariants.Changes.{Pops}
use Rattle.path_machine.specs.declared.next.Next.{Next as NextCode}
use Rattle.path_machine.specs.invariants.Steps.{IsTaken, StepAgrees, MoveAgrees}
use Rattle.path_machine.specs.invariants.Setups.{IsPlanTaken, IsPlanNext, IsBelowNext, IsBodyNext, IsStateNext}
use Rattle.path_machine.proofs.Effecting.{unlimited}
use Rattle.path_machine.specs.declared.telling.Telling.{Telling}

-- results

fits_target : (h : Classes) (globals : Types) (body : TypedBody) (t : ValueType ClassId) (target : Option Target) → FitsTarget h globals body t target → (v : ValueType ClassId) × Converts h t (target_conversion target) v
fits_target h globals body t None a = (t, to_same t)
fits_target h globals body t (Some target) a = (a.0, a.2)

from_called : (h : Classes) (program : TypedProgram) (g : RunningBody) (below : List Frame) (owner : Owner) (found : Conversion) (target : Option Target) → IsCalledFrom program (FitsResult h program.globals owner found target) below → (t : ValueType ClassId) → returns_of h owner ≡ Some (ValueReturn t) →
    (u v : ValueType ClassId) × Converts h t found u × Converts h u (target_conversion target) v
from_called h program g [] owner found target a t is = absurd a
from_called h program g (InPlan f ∷ below) owner found target a t is = absurd a
from_called h program g (InBody f ∷ below) owner found target (body, there, fits) t is =
    let r = fits.result t is in
    let w = fits_target h program.globals body r.0 target r.2 in
    (r.0, w.0, r.1, w.1)

gives_by : (h : Classes) (program : TypedProgram) (f : RunningBody) (below : List Frame) (owner : Owner) → f.owner ≡ owner → (f.owner ≡ Main → f.found ≡ ToSame) → IsOpened h program owner f.found f.target below → (t : ValueType ClassId) → returns_of h owner ≡ Some (ValueReturn t) →
    (u v : ValueType ClassId) × Converts h t f.found u × Converts h u (target_conversion f.target) v
gives_by h program f below Main is plain a t r = (t, t, subst (λ (x : Conversion). Converts h t x t) (sym (plain is)) (to_same t), subst (λ (x : Option Target). Converts h t (target_conversion x) t) (sym a.1) (to_same t))
gives_by h program f below (Function g) is plain a t r = from_called h program f below (Function g) f.found f.target a t r
gives_by h program f below (Constructor c) is plain a t r = absurd (let e : None ≡ Some (ValueReturn t) = r in cc)
gives_by h program f below (Destructor c) is plain a t r = absurd (let e : None ≡ Some (ValueReturn t) = r in cc)

-- plans

plan_waits : (h : Classes) (program : TypedProgram) (classes : List ClassId) (f : Planned) (below : List Frame) (class : ClassId) → slice_get classes f.object ≡ Some class → IsCalledFrom program (FitsMadeObject h program.globals classes f.object f.target) below →
    (target : Target) → f.target ≡ Some target → (t : ValueType ClassId) × Converts h (PointerType class) target.conversion t
plan_waits h program classes f [] class made a target is = absurd a
plan_waits h program classes f (InPlan g ∷ below) class made a target is = absurd a
plan_waits h program classes f (InBody g ∷ below) class made (body, there, fits) target is =
    let same : fits.class ≡ class = let e : Some fits.class ≡ Some class = sym fits.made ∙ made in cc in
    let r = subst (λ (o : Option Target). FitsTarget h program.globals body (PointerType fits.class) o) is fits.fits in
    (r.0, subst (λ (c : ClassId). Converts h (PointerType c) target.conversion r.0) same r.2)

-- the frame on top

frames_typed : (h : Classes) (program : TypedProgram) (s : ProgramState) (frames : List Frame) → IsTypedState h program s → s.frames ≡ frames → AreTypedFrames h program s.objects.classes frames
frames_typed h program s frames a is = subst (AreTypedFrames h program s.objects.classes) is a.frames

pub plan_next : (h : Classes) (program : TypedProgram) (s : ProgramState) (f : Planned) (below : List Frame) (class : ClassId) → IsStateNext h program s → s.frames ≡ InPlan f ∷ below → slice_get s.objects.classes f.object ≡ Some class → IsPlanNext h s f class
plan_next h program s f below class next is made =
    let typed = frames_typed h program s (InPlan f ∷ below) next.typed is in
    record { fits = λ e events first. next.fits f e events below is first; waits = plan_waits h program s.objects.classes f below class made typed.0 }

below_next : (h : Classes) (program : TypedProgram) (s : ProgramState) (f : RunningBody) (below : List Frame) → IsStateNext h program s → s.frames ≡ InBody f ∷ below → IsBelowNext h s below
below_next h program s f below next is g rest class under made =
    let here : s.frames ≡ InBody f ∷ (InPlan g ∷ rest) = is ∙ ap (λ xs. InBody f ∷ xs) under in
    let typed = frames_typed h program s (InBody f ∷ (InPlan g ∷ rest)) next.typed here in
    let below_typed = typed.2 in
    record { fits = λ e events first. next.behind f g e events rest here first; waits = plan_waits h program s.objects.classes g rest class made below_typed.0 }

pub body_next : (h : Classes) (program : TypedProgram) → IsTypedProgram h program → (s : ProgramState) (f : RunningBody) (below : List Frame) → IsStateNext h program s → s.frames ≡ InBody f ∷ below → (f.owner ≡ Main → f.found ≡ ToSame) → IsBodyNext h program s f below
body_next h program program_typed s f below next is plain =
    let typed = frames_typed h program s (InBody f ∷ below) next.typed is in
    record {
      seen = λ body here.
          let a = sight_typed h program s f below body is here (body_typed h program program_typed f.owner body here).0 next.typed in
          record { fine = next.fine; settled = next.settled f below is; globals = a.globals; locals = a.locals; this = a.this; leaves = a.leaves };
      typed = λ body n statement here at. ((body_typed h program program_typed f.owner body here).1.statements n statement at).typed;
      back = λ body here t returns.
          let same = (body_typed h program program_typed f.owner body here).0 in
          gives_by h program f below f.owner refl plain typed.1 t (ap (returns_of h) (sym same) ∙ returns);
      behind = below_next h program s f below next is;
    }

-- the step of the frame that was taken

pub body_moves : (h : Classes) (sizes : ClassId → ℕ) (program : TypedProgram) → IsTypedProgram h program → (machine new : Machine) (s : ProgramState) (frames : List Frame) (popped : Option FrameCode) (frame : BodyFrame) (before after : Telling) (code : NextCode) → s.frames ≡ frames → popped ≡ Some (Body frame) → Pops h sizes program machine s popped frames → IsStateNext h program s →
    ((f : RunningBody) (below : List Frame) → IsTaken h sizes program machine frame s f below → s.frames ≡ InBody f ∷ below → IsBodyNext h program s f below → MoveAgrees h sizes program (move_by (body_step h program s f below (owned_body program f.owner)) (body_limit sizes s f (owned_body program f.owner))) new before after code) →
    MoveAgrees h sizes program (move_by (frame_step h program s frames) (frame_limit sizes program s frames)) new before after code
body_moves h sizes program typed machine new s [] popped frame before after code is top a next does = tt
body_moves h sizes program typed machine new s (f ∷ below) None frame before after code is top a next does = absurd a
body_moves h sizes program typed machine new s (f ∷ below) (Some (Plan plan)) frame before after code is top a next does = absurd (let e : Some (Plan plan) ≡ Some (Body frame) = top in cc)
body_moves h sizes program typed machine new s (InPlan f ∷ below) (Some (Body frame2)) frame before after code is top a next does = absurd a.0
body_moves h sizes program typed machine new s (InBody f ∷ below) (Some (Body frame2)) frame before after code is top (stands, counts, rest) next does =
    let same : frame2 ≡ frame = let e : Some (Body frame2) ≡ Some (Body frame) = top in cc in
    let taken : IsTaken h sizes program machine frame2 s f below = record { machine_stands = rest; body_stands = stands; counts = counts } in
    does f below (subst (λ (x : BodyFrame). IsTaken h sizes program machine x s f below) same taken) is (body_next h program typed s f below next is stands.plain_main)

pub plan_moves : (h : Classes) (sizes : ClassId → ℕ) (program : TypedProgram) (machine new : Machine) (s : ProgramState) (frames : List Frame) (popped : Option FrameCode) (plan : PlanFrame) (before after : Telling) (code : NextCode) → s.frames ≡ frames → popped ≡ Some (Plan plan) → Pops h sizes program machine s popped frames → IsStateNext h program s →
    ((f : Planned) (below : List Frame) → IsPlanTaken h sizes program machine plan s f below → IsPlanNext h s f plan.whole.class → StepAgrees h sizes program (event_step program s f below f.events) new before after code) →
    MoveAgrees h sizes program (move_by (frame_step h program s frames) (frame_limit sizes program s frames)) new before after code
plan_moves h sizes program machine new s [] popped plan before after code is top a next does = tt
plan_moves h sizes program machine new s (f ∷ below) None plan before after code is top a next does = absurd a
plan_moves h sizes program machine new s (f ∷ below) (Some (Body frame)) plan before after code is top a next does = absurd (let e : Some (Body frame) ≡ Some (Plan plan) = top in cc)
plan_moves h sizes program machine new s (InBody f ∷ below) (Some (Plan plan2)) plan before after code is top a next does = absurd a.0
plan_moves h sizes program machine new s (InPlan f ∷ below) (Some (Plan plan2)) plan before after code is top (stands, counts, rest) next does =
    let same : plan2 ≡ plan = let e : Some (Plan plan2) ≡ Some (Plan plan) = top in cc in
    let taken : IsPlanTaken h sizes program machine plan2 s f below = record { machine_stands = rest; plan_stands = stands; counts = counts } in
    unlimited h sizes program (event_step program s f below f.events) new before after code
    (does f below (subst (λ (x : PlanFrame). IsPlanTaken h sizes program machine x s f below) same taken) (subst (λ (x : PlanFrame). IsPlanNext h s f x.whole.class) same (plan_next h program s f below plan2.whole.class next is stands.made)))

-- no frame is left
pub none_moves : (h : Classes) (sizes : ClassId → ℕ) (program : TypedProgram) (machine new : Machine) (s : ProgramState) (frames : List Frame) (popped : Option FrameCode) (before after : Telling) (code : NextCode) → popped ≡ None → Pops h sizes program machine s popped frames →
    MoveAgrees h sizes program (move_by (frame_step h program s frames) (frame_limit sizes program s frames)) new before after code
none_moves h sizes program machine new s [] popped before after code is a = tt
none_moves h sizes program machine new s (f ∷ below) None before after code is a = absurd a
none_moves h sizes program machine new s (f ∷ below) (Some frame) before after code is a = absurd (let e : Some frame ≡ None = is in cc)
