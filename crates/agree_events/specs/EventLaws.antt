-- What holds of the events of plans, of their blocks, and of the bodies that run between them.
use Rattle.std.specs.Prelude.{◌≡◌, ℕ, true, false, Some, List, [], ◌∷◌, ◌<◌, length, slice_get}
use Rattle.cxx_hierarchy.specs.declared.records.ClassId.{ClassId}
use Rattle.cxx_hierarchy.specs.Hierarchies.{IsHierarchy}
use Rattle.cxx_subobject.specs.Locations.{Step}
use Rattle.cxx_program.specs.declared.program.Owner.TheVariants.{Constructor, Destructor}
use Rattle.path_plan.specs.Phases.{PartEvent, Phases, phases_after, part_of}
use Rattle.path_plan.specs.declared.form.Form.{Form}
use Rattle.path_plan.specs.declared.form.Form.TheVariants.{InFull}
use Rattle.path_plan.specs.Views.{Fits}
use Rattle.path_plan.specs.Whole.{whole_part}
use Rattle.path_model.specs.Values.{Objects}
use Rattle.path_model.specs.declared.outs.Out.{Out}
use Rattle.path_model.specs.States.{ProgramState, RunningBody as PathRunning, Planned, Frame as PathFrame, InBody, InPlan, with_frames, is_body}
use Rattle.path_model.specs.Effects.{Goes}
use Rattle.path_model.specs.Runs.{Moves}
use Rattle.path_model.specs.Steps.{objects_after, event_outs, event_step}
use Rattle.code_blocks.specs.Blocks.{AtEvent, event_then, event_block, closing_ops}
use Rattle.code_blocks.specs.Items.{Item, Does, event_of}
use Rattle.code_blocks.specs.Lowered.{IsEnd, has_own_block}
use Rattle.code_blocks.specs.declared.items.Kind.{Kind}
use Rattle.code_blocks.specs.declared.items.Kind.TheVariants.{AtDone}
use Rattle.code_ops.specs.Routines.{IsCourse}
use Rattle.code_ops.specs.Setups.{PlanCode, plan_owner, body_of_routine}
use Rattle.code_ops.specs.declared.routines.Course.{Course}
use Rattle.code_ops.specs.declared.routines.Course.TheVariants.{Constructs}
use Rattle.byte_machine.specs.Running.{Running}
use Rattle.byte_machine.specs.Leads.{OpsLead, LeadsBlock}
use Rattle.agree_relation.specs.Worlds.{World, IsProgramWorld, world_classes, fixed}
use Rattle.agree_relation.specs.Words.{heap_of}
use Rattle.agree_relation.specs.Columns.{ColumnsStand}
use Rattle.agree_relation.specs.Goings.{Going, going, at_left, opened_goings, ArePlanned}
use Rattle.agree_relation.specs.Frames.{PlaceNumbers}
use Rattle.agree_relation.specs.Agrees.{Agrees}
use Rattle.agree_events.specs.Events.{IsOwnEvent, complete_of, RunsGoing, HasHappened}
use Rattle.agree_statements.specs.Statements.{BeginsBlock}
use Rattle.agree_events.specs.Turns.{IsPlanTurn, IsPlanBlock, InPlanBody}

-- behind an own event that fits, the parts that are then opened stand for the phases and stacks after it
abbrev pub PartsGoOn : World → Type 0
PartsGoOn w = IsHierarchy (world_classes w) → (classes : List ClassId) (s : Phases) (f : Going) (k : Kind) (left : List Item) (below : List Going) →
    ArePlanned w classes s (at_left f (Does k ∷ left) ∷ below) → Fits (world_classes w) s (event_of k f.part) →
    ArePlanned w classes (phases_after s (event_of k f.part)) (opened_goings w f left below)

-- a heap object whose stacks are empty stands on top of any parts, at the start of its plan
abbrev pub NewObjectsStand : World → Type 0
NewObjectsStand w = IsHierarchy (world_classes w) → (classes : List ClassId) (s : Phases) (course : Course) (k : ℕ) (c : ClassId) (fs : List Going) →
    IsCourse course InFull → slice_get classes k ≡ Some c → ((o : List Step) → s.running k o ≡ []) → ArePlanned w classes s fs →
    ArePlanned w classes s (going w course InFull c (whole_part k c) ∷ fs)

-- the ops of an own event that fits, run by the frame of its part, keep the columns
abbrev pub EventsKeepColumns : World → PlaceNumbers → Type 0
EventsKeepColumns w at = IsProgramWorld w → (s : Objects) (f : Going) (k : Kind) (left : List Item) (below : List Going) →
    (event : IsOwnEvent w s.classes s.phases f k left below) → (r : Running) → s.is_closed f.part.object ≡ false →
    RunsGoing w (heap_of s.classes r.memory.regions) f below (complete_of event) r.top → ColumnsStand w s r.memory r.objects r.heap r.notes →
    OpsLead (fixed w) (event_then w.setup f.course f.form f.class k []) r (HasHappened w at f (objects_after w.setup.program s (event_of k f.part)) r (event_outs s (event_of k f.part)))

-- where a plan is on top, the frame on top is at the block of its next event, and that agrees with the step
abbrev pub PlanBlocksAgree : World → PlaceNumbers → Type 0
PlanBlocksAgree w at = IsProgramWorld w → (s : ProgramState) (p : Planned) (path : List PathFrame) → s.frames ≡ InPlan p ∷ path →
    (r : Running) (begins : BeginsBlock w at s r) → (e : PartEvent) (es : List PartEvent) → p.events ≡ e ∷ es → Fits (world_classes w) s.objects.phases e →
    s.objects.is_closed (part_of e).object ≡ false → (s' : ProgramState) (told : List Out) → event_step w.setup.program s p path (e ∷ es) ≡ Goes s' told →
    IsPlanBlock w at s p path r begins s' told

-- the block of an own event stands in the code
abbrev pub PlanBlocksStand : World → Type 0
PlanBlocksStand w = (world : IsProgramWorld w) → (course : Course) (form : Form) (c : ClassId) (k : Kind) (left : List Item) → c.0 < length (world_classes w) →
    IsCourse course form → IsEnd w.setup course form c (Does k ∷ left) → has_own_block (is_body (body_of_routine w.setup (PlanCode course form c))) k ≡ true →
    slice_get w.code.blocks (world.lowered.at (AtEvent course form c (Does k ∷ left))) ≡ Some (record { ops = event_block w.setup world.lowered.at course form c k left; line = 0 })

-- where a body of a plan is on top, the frame on top runs the plan of a part
abbrev pub BodiesRunInPlans : World → PlaceNumbers → Type 0
BodiesRunInPlans w at = IsProgramWorld w → (s : ProgramState) (fb : PathRunning) (p : Planned) (path : List PathFrame) → s.frames ≡ InBody fb ∷ InPlan p ∷ path →
    (course : Course) (c : ClassId) → fb.owner ≡ plan_owner course c → (r : Running) (begins : BeginsBlock w at s r) →
    InPlanBody w at s fb p path r begins

-- the block at the end of a constructor's body is that of its last event, and agrees with the step
abbrev pub ConstructorBodiesClose : World → PlaceNumbers → Type 0
ConstructorBodiesClose w at = IsProgramWorld w → (s : ProgramState) (fb : PathRunning) (p : Planned) (path : List PathFrame) →
    s.frames ≡ InBody fb ∷ InPlan p ∷ path → (c : ClassId) → fb.owner ≡ Constructor c → (r : Running) (begins : BeginsBlock w at s r) →
    (inside : InPlanBody w at s fb p path r begins) → (e : PartEvent) (es : List PartEvent) → p.events ≡ e ∷ es → Fits (world_classes w) s.objects.phases e →
    s.objects.is_closed (part_of e).object ≡ false → (s' : ProgramState) (told : List Out) → event_step w.setup.program s p path p.events ≡ Goes s' told →
    (inside.f.course ≡ Constructs) × IsPlanTurn w at s p path inside.f AtDone [] inside.others inside.lower r s' told

-- the block at the end of a destructor's body opens the parts that follow
abbrev pub DestructorBodiesClose : World → PlaceNumbers → Type 0
DestructorBodiesClose w at = IsProgramWorld w → (s : ProgramState) (fb : PathRunning) (p : Planned) (path : List PathFrame) →
    s.frames ≡ InBody fb ∷ InPlan p ∷ path → (c : ClassId) → fb.owner ≡ Destructor c → (r : Running) (begins : BeginsBlock w at s r) →
    (inside : InPlanBody w at s fb p path r begins) →
    LeadsBlock (fixed w) (closing_ops w.setup at (PlanCode inside.f.course inside.f.form inside.f.class)) r (Agrees w at (Moves (with_frames s (InPlan p ∷ path)) []))
