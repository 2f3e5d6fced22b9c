-- How a plan goes on behind an event.
use Rattle.std.proofs.Common.{◌≡◌, ℕ, ◌+◌, ◌-◌, Bool, true, false, Option, Some, None, List, [], ◌∷◌, length, refl, ap, subst, sym, ◌∙◌, arith}
use Rattle.std.specs.Prelude.{replicate, if◌then◌else◌}
use Rattle.std.specs.List.{AllZip, fold}
use Rattle.cxx_hierarchy.specs.declared.records.ClassId.{ClassId}
use Rattle.cxx_hierarchy.specs.declared.records.ValueType.{ValueType}
use Rattle.cxx_hierarchy.specs.declared.records.ValueType.TheVariants.{Pointer as PointerType}
use Rattle.cxx_hierarchy.specs.Classes.{Classes}
use Rattle.cxx_subobject.specs.Subobjects.{class_of}
use Rattle.cxx_subobject.specs.Locations.{ObjectPart}
use Rattle.cxx_program.specs.declared.operand.Conversion.{Conversion}
use Rattle.cxx_program.specs.declared.operand.Conversion.TheVariants.{Same as ToSame}
use Rattle.cxx_program.specs.declared.program.TypedBody.{TypedBody}
use Rattle.cxx_program.specs.declared.program.TypedProgram.{TypedProgram}
use Rattle.cxx_program.specs.Typed.{Converts, to_same, to_base, IsTypedProgram}
use Rattle.path_plan.specs.Phases.{Phase, Raw, InBases, ReadyBuilding, Complete, ReadyEnding, EndingBases, Ended, put, part_of, PartEvent, Begin, Ready, Init, Body, Done, Ending, Bases, End}
use Rattle.path_plan.specs.Views.{Fits}
use Rattle.path_plan.specs.Whole.{whole_part}
use Rattle.path_plan.proofs.Same.{part_itself}
use Rattle.path_model.specs.declared.outs.Out.{Out}
use Rattle.path_model.specs.Values.{Value, Unset, Pointer, Objects}
use Rattle.path_model.specs.States.{Target, Planned, Frame, InBody, InPlan, ProgramState, owned_body, entered_body, with_objects, with_frames}
use Rattle.path_model.specs.Runs.{open_count, opened_by, opened_for}
use Rattle.path_model.specs.Outs.{class_or_first, object_class}
use Rattle.path_model.specs.Effects.{given_to_target}
use Rattle.path_model.specs.Steps.{body_owner, body_opened, class_of_part, objects_after, event_outs, plan_left, resumed, event_step}
use Rattle.path_model.proofs.TypedBodies.{body_typed}
use Rattle.path_heap.specs.declared.state.NumberedPart.{NumberedPart}
use Rattle.path_heap.specs.declared.state.Value.TheVariants.{Unset as UnsetCode, Pointer as PointerCode}
use Rattle.path_heap.specs.Points.{StandsForPart}
use Rattle.path_heap.specs.Stands.{HasBegun, Means}
use Rattle.path_heap.proofs.Viewing.{points_of}
use Rattle.path_values.specs.Conversions.{CanConvert}
use Rattle.path_events.specs.declared.plan.Plan.{Plan as PlanCode}
use Rattle.path_events.specs.declared.plan.PlanEvent.{PlanEvent}
use Rattle.path_events.specs.Plans.{PlanStands, MeansNext, IsEvent, begins_event, ready_event, init_event, body_event, done_event, ending_event, bases_event, end_event}
use Rattle.path_machine.specs.declared.frames.BodyFrame.{BodyFrame}
use Rattle.path_machine.specs.declared.frames.PlanFrame.{PlanFrame}
use Rattle.path_machine.specs.declared.frames.Frame.{Frame as FrameCode}
use Rattle.path_machine.specs.declared.frames.Frame.TheVariants.{Body as BodyFrameCode, Plan as PlanFrameCode}
use Rattle.path_machine.specs.declared.machine.Machine.{Machine}
use Rattle.path_machine.specs.invariants.Changes.{with_plan}
use Rattle.path_machine.specs.Frames.{target_of_code, BodyStands, IsLastOf, PlanFrameStands, FrameStands, depth_in}
use Rattle.path_machine.specs.Machines.{MachineStands}
use Rattle.path_machine.specs.declared.next.Next.{Next as NextCode}
use Rattle.path_machine.specs.declared.next.Next.TheVariants.{Goes as GoesCode}
use Rattle.path_machine.specs.invariants.Steps.{StepAgrees, CanGive}
use Rattle.path_machine.specs.invariants.Setups.{IsPlanTaken, IsPlanNext}
use Rattle.path_machine.specs.invariants.Events.{body_part, with_events, Happens, TellsEvent, CanEnd, Resumes, Enters}
use Rattle.path_machine.proofs.Happening.{part_class, half_begun}
use Rattle.path_machine.proofs.Opening.{unset_mean}
use Rattle.path_machine.specs.declared.telling.Telling.{Telling}
use Rattle.path_machine.specs.Tellings.{TellsMore}

-- frames

-- the plan goes on behind its first event
abbrev pub Advances : Classes → TypedProgram → (old new : PlanCode) → Type 0
Advances h program old new = (classes : List ClassId) (e : PartEvent) (events : List PartEvent) → PlanStands h program classes old (e ∷ events) → PlanStands h program classes new events

-- the code has this event next
abbrev pub Upcoming : Classes → TypedProgram → PlanCode → Option PlanEvent → Type 0
Upcoming h program plan code = (classes : List ClassId) (events : List PartEvent) → PlanStands h program classes plan events → MeansNext h program classes code events

-- the frame was put on top
abbrev pub Pushes : Classes → TypedProgram → (old new : Machine) → FrameCode → Type 0
Pushes h program old new frame = (sizes : ClassId → ℕ) (s : ProgramState) (f : Frame) → MachineStands h sizes program old s → FrameStands h program s.objects.classes frame f → depth_in frame ≡ open_count (f ∷ s.frames) → MachineStands h sizes program new (with_frames s (f ∷ s.frames))

last_behind : (p : ObjectPart) (e : PartEvent) (events : List PartEvent) → IsLastOf p (e ∷ events) → IsLastOf p events
last_behind p e [] a = tt
last_behind p e (x ∷ events) a = a

plan_moved : (h : Classes) (program : TypedProgram) (classes : List ClassId) (frame : PlanFrame) (plan : PlanCode) (f : Planned) (e : PartEvent) (events : List PartEvent) → Advances h program frame.plan plan → PlanFrameStands h program classes frame (with_events f (e ∷ events)) → PlanFrameStands h program classes (with_plan frame plan) (with_events f events)
plan_moved h program classes frame plan f e events advances a = record {
  plan_stands = advances classes e events a.plan_stands;
  same_kind = a.same_kind;
  made = a.made;
  whole = a.whole;
  ends_whole = last_behind (whole_part f.object frame.whole.class) e events a.ends_whole;
  same_target = a.same_target;
}

-- bodies

less_none : (n : ℕ) → n - 0 ≡ n
less_none n = omega arith

uncounted : (b : Bool) (c : ClassId) → opened_for (body_owner b c) ≡ 0
uncounted true c = refl
uncounted false c = refl

counts_over : (depth k : ℕ) (f : Planned) (below : List Frame) → k ≡ 0 → depth ≡ open_count (InPlan f ∷ below) → depth ≡ fold (λ (n : ℕ) (x : Frame). n + opened_by x) (0 + k + 1) below
counts_over depth k f below none is = subst (λ (x : ℕ). depth ≡ fold (λ (n : ℕ) (x : Frame). n + opened_by x) (0 + x + 1) below) (sym none) is

-- whose body it is
owner_named : (b d : Bool) (p : ObjectPart) (c : ClassId) → b ≡ d → class_of_part p ≡ c → body_owner b c ≡ body_owner d (class_of_part p)
owner_named b d p c kind class = ap (λ (x : Bool). body_owner x c) kind ∙ ap (λ (x : ClassId). body_owner d x) (sym class)

-- a body that is not there
pub enters_none : (h : Classes) (program : TypedProgram) (machine : Machine) (frame : PlanFrame) (part : NumberedPart) (next : NextCode) → None ≡ owned_body program (body_owner frame.is_building part.class) → Enters h program machine machine frame part next
enters_none h program machine frame part next none sizes s f p events below outs before after t named e =
    let owner = owner_named frame.is_building f.is_building p part.class t.plan_stands.same_kind (part_class h s.objects.classes part p named) in
    subst (λ (o : Option TypedBody). StepAgrees h sizes program (body_opened s p outs (plan_left f events ∷ below) o) machine before after next) (none ∙ ap (owned_body program) owner) tt

-- a body that begins: what the frame of the code has
pub record IsStart (code : BodyFrame) (body : TypedBody) (part : NumberedPart) (depth : ℕ) : Type 0 where
  pub owner : code.owner ≡ body.owner
  pub this : code.this ≡ PointerCode part.number
  pub locals : code.locals.items ≡ replicate (length body.locals) UnsetCode
  pub next : code.next ≡ 0
  pub found : code.found ≡ ToSame
  pub target : target_of_code code.target ≡ None
  pub counted : code.depth ≡ depth

start_stands : (h : Classes) (classes : List ClassId) (code : BodyFrame) (body : TypedBody) (part : NumberedPart) (depth : ℕ) (p : ObjectPart) → IsStart code body part depth → StandsForPart h classes part p → BodyStands h classes code (entered_body body (Pointer p) [] ToSame None)
start_stands h classes code body part depth p is named = record {
  same_owner = is.owner;
  this_means = subst (λ x. Means h classes x (Pointer p)) (sym is.this) (points_of h classes part p named);
  locals_mean = subst (λ xs. AllZip (Means h classes) xs (replicate (length body.locals - 0) Unset)) (sym is.locals) (subst (λ n. AllZip (Means h classes) (replicate (length body.locals) UnsetCode) (replicate n Unset)) (sym (less_none (length body.locals))) (unset_mean h classes (length body.locals)));
  same_next = is.next;
  same_found = is.found;
  same_target = is.target;
  plain_main = λ main. refl;
}

pub enters_body : (h : Classes) (program : TypedProgram) → IsTypedProgram h program → (old mid new : Machine) (frame : PlanFrame) (part : NumberedPart) (plan : PlanCode) (code : BodyFrame) (body : TypedBody) → Some body ≡ owned_body program (body_owner frame.is_building part.class)
    → IsStart code body part frame.depth → Advances h program frame.plan plan → Pushes h program old mid (PlanFrameCode (with_plan frame plan)) → Pushes h program mid new (BodyFrameCode code) → Enters h program old new frame part GoesCode
enters_body h program typed old mid new frame part plan code body found is advances pushes enters sizes s f p events below outs before after t named e =
    let owner = owner_named frame.is_building f.is_building p part.class t.plan_stands.same_kind (part_class h s.objects.classes part p named) in
    let there : owned_body program (body_owner f.is_building (class_of_part p)) ≡ Some body = sym (found ∙ ap (owned_body program) owner) in
    let whose = (body_typed h program typed (body_owner f.is_building (class_of_part p)) body there).0 in
    let left = pushes sizes (with_frames s below) (plan_left f events) t.machine_stands (plan_moved h program s.objects.classes frame plan f (Body p) events advances t.plan_stands) t.counts in
    let none : opened_for body.owner ≡ 0 = ap opened_for whose ∙ uncounted f.is_building (class_of_part p) in
    let counts = is.counted ∙ counts_over frame.depth (opened_for body.owner) (with_events f events) below none t.counts in
    let begun = enters sizes (with_frames s (plan_left f events ∷ below)) (InBody (entered_body body (Pointer p) [] ToSame None)) left (start_stands h s.objects.classes code body part frame.depth p is named) counts in
    subst (λ (o : Option TypedBody). StepAgrees h sizes program (body_opened s p outs (plan_left f events ∷ below) o) new before after GoesCode) (sym there) (refl, begun, e)

-- the plan goes on

record IsBodyOf (h : Classes) (classes : List ClassId) (part : NumberedPart) (e : PartEvent) : Type 0 where
  p : ObjectPart
  named : StandsForPart h classes part p
  is : e ≡ Body p

body_named : (h : Classes) (program : TypedProgram) (classes : List ClassId) (code : PlanEvent) (part : NumberedPart) (e : PartEvent) → body_part code ≡ Some part → IsEvent h program classes code e → IsBodyOf h classes part e
body_named h program classes _ part _ is (begins_event code p a) = absurd (cc)
body_named h program classes _ part _ is (ready_event code p a) = absurd (cc)
body_named h program classes _ part _ is (init_event code m p a some) = absurd (cc)
body_named h program classes _ part _ is (body_event code p a) = let same : code ≡ part = cc in record { p = p; named = subst (λ (x : NumberedPart). StandsForPart h classes x p) same a; is = refl }
body_named h program classes _ part _ is (done_event code p a) = absurd (cc)
body_named h program classes _ part _ is (ending_event code p a) = absurd (cc)
body_named h program classes _ part _ is (bases_event code p a) = absurd (cc)
body_named h program classes _ part _ is (end_event code p a) = absurd (cc)

-- with a body
pub resumes_body : (h : Classes) (program : TypedProgram) (old new : Machine) (frame : PlanFrame) (code : PlanEvent) (part : NumberedPart) (next : NextCode) → body_part code ≡ Some part → Upcoming h program frame.plan (Some code) → Enters h program old new frame part next → Resumes h program old new frame next
resumes_body h program old new frame code part next is means enters sizes s f [] below outs before after t can e = absurd (means s.objects.classes [] t.plan_stands.plan_stands)
resumes_body h program old new frame code part next is means enters sizes s f (x ∷ events) below outs before after t can e =
    let b = body_named h program s.objects.classes code part x is (means s.objects.classes (x ∷ events) t.plan_stands.plan_stands) in
    subst (λ (y : PartEvent). IsPlanTaken h sizes program old frame s (with_events f (y ∷ events)) below → StepAgrees h sizes program (resumed program s f below outs (y ∷ events)) new before after next) (sym b.is)
    (λ taken. enters sizes s f b.p events below outs before after taken b.named e) t

plan_waits : (h : Classes) (sizes : ClassId → ℕ) (program : TypedProgram) (s : ProgramState) (f : Planned) (below : List Frame) (outs : List Out) (code : PlanEvent) (x : PartEvent) (events : List PartEvent) (new : Machine) (before after : Telling)
    → body_part code ≡ None → IsEvent h program s.objects.classes code x → MachineStands h sizes program new (with_frames s (plan_left f (x ∷ events) ∷ below)) → TellsMore before after outs → StepAgrees h sizes program (resumed program s f below outs (x ∷ events)) new before after GoesCode
plan_waits h sizes program s f below outs _ _ events new before after is (begins_event code p a) stands e = (refl, stands, e)
plan_waits h sizes program s f below outs _ _ events new before after is (ready_event code p a) stands e = (refl, stands, e)
plan_waits h sizes program s f below outs _ _ events new before after is (init_event code m p a some) stands e = (refl, stands, e)
plan_waits h sizes program s f below outs _ _ events new before after is (body_event code p a) stands e = absurd (cc)
plan_waits h sizes program s f below outs _ _ events new before after is (done_event code p a) stands e = (refl, stands, e)
plan_waits h sizes program s f below outs _ _ events new before after is (ending_event code p a) stands e = (refl, stands, e)
plan_waits h sizes program s f below outs _ _ events new before after is (bases_event code p a) stands e = (refl, stands, e)
plan_waits h sizes program s f below outs _ _ events new before after is (end_event code p a) stands e = (refl, stands, e)

-- with another event
pub resumes_plan : (h : Classes) (program : TypedProgram) (old new : Machine) (frame : PlanFrame) (code : PlanEvent) → body_part code ≡ None → Upcoming h program frame.plan (Some code) → Pushes h program old new (PlanFrameCode frame) → Resumes h program old new frame GoesCode
resumes_plan h program old new frame code is means pushes sizes s f [] below outs before after t can e = absurd (means s.objects.classes [] t.plan_stands.plan_stands)
resumes_plan h program old new frame code is means pushes sizes s f (x ∷ events) below outs before after t can e =
    plan_waits h sizes program s f below outs code x events new before after is (means s.objects.classes (x ∷ events) t.plan_stands.plan_stands)
    (pushes sizes (with_frames s below) (plan_left f (x ∷ events)) t.machine_stands t.plan_stands t.counts) e

can_elsewhere : (h : Classes) (s : ProgramState) (below : List Frame) (v : Value) (target : Option Target) → CanGive h s v target → CanGive h (with_frames s below) v target
can_elsewhere h s below v None a = tt
can_elsewhere h s below v (Some target) a = a

-- the pointer comes to who waits for it
abbrev pub Gives : Classes → TypedProgram → (old new : Machine) → PlanFrame → Type 0
Gives h program old new frame = (sizes : ClassId → ℕ) (s : ProgramState) (v : Value) → MachineStands h sizes program old s → Means h s.objects.classes (PointerCode frame.whole.number) v → CanGive h s v (target_of_code frame.target) → MachineStands h sizes program new (given_to_target s v (target_of_code frame.target))

-- behind the last event
pub resumes_none : (h : Classes) (program : TypedProgram) (old new : Machine) (frame : PlanFrame) → Upcoming h program frame.plan None → Gives h program old new frame → Resumes h program old new frame GoesCode
resumes_none h program old new frame means gives sizes s f (x ∷ events) below outs before after t can e = absurd (means s.objects.classes (x ∷ events) t.plan_stands.plan_stands)
resumes_none h program old new frame means gives sizes s f [] below outs before after t can e =
    let whole = whole_part f.object frame.whole.class in
    let class : frame.whole.class ≡ object_class s.objects f.object = sym (ap class_or_first t.plan_stands.made) in
    let able = can_elsewhere h s below (Pointer whole) f.target (can refl) in
    let did = subst (λ (o : Option Target). CanGive h (with_frames s below) (Pointer whole) o → MachineStands h sizes program new (given_to_target (with_frames s below) (Pointer whole) o)) t.plan_stands.same_target
    (gives sizes (with_frames s below) (Pointer whole) t.machine_stands (points_of h s.objects.classes frame.whole whole t.plan_stands.whole)) able in
    (refl, subst (λ (c : ClassId). MachineStands h sizes program new (given_to_target (with_frames s below) (Pointer (whole_part f.object c)) f.target)) class did, e)

-- the part of an event has begun behind it

put_begun : (phase : ObjectPart → Phase) (p : ObjectPart) (x : Phase) → (x ≡ Raw → ⊥) → put phase p x p ≡ Raw → ⊥
put_begun phase p x begun = subst (λ (b : Bool). (if b then x else phase p) ≡ Raw → ⊥) (sym (part_itself p)) begun

begun_behind : (h : Classes) (program : TypedProgram) (s : Objects) (e : PartEvent) → Fits h s.phases e → HasBegun (objects_after program s e) (part_of e)
begun_behind h program s (Begin p) fits = put_begun s.phases.phase p InBases (λ raw. cc)
begun_behind h program s (Ready p) fits = put_begun s.phases.phase p ReadyBuilding (λ raw. cc)
begun_behind h program s (Init p m) fits = half_begun (s.phases.phase p) fits.0
begun_behind h program s (Body p) fits = half_begun (s.phases.phase p) fits.0
begun_behind h program s (Done p) fits = put_begun s.phases.phase p Complete (λ raw. cc)
begun_behind h program s (Ending p) fits = put_begun s.phases.phase p ReadyEnding (λ raw. cc)
begun_behind h program s (Bases p) fits = put_begun s.phases.phase p EndingBases (λ raw. cc)
begun_behind h program s (End p) fits = put_begun s.phases.phase p Ended (λ raw. cc)

can_convert : (h : Classes) (s : Objects) (p : ObjectPart) (class : ClassId) (c : Conversion) (t : ValueType ClassId) → HasBegun s p → class_of p.at ≡ Some class → Converts h (PointerType class) c t → CanConvert h s (Pointer p) c
can_convert h s p class _ _ begun is (to_same _) = tt
can_convert h s p class _ _ begun is (to_base _ d i proper) = record { begun = begun; class = class; of_class = is; valid = proper.valid }

can_give : (h : Classes) (s : ProgramState) (p : ObjectPart) (class : ClassId) → HasBegun s.objects p → class_of p.at ≡ Some class → (o : Option Target) → ((target : Target) → o ≡ Some target → (t : ValueType ClassId) × Converts h (PointerType class) target.conversion t) → CanGive h s (Pointer p) o
can_give h s p class begun is None waits = tt
can_give h s p class begun is (Some target) waits = let w = waits target refl in can_convert h s.objects p class target.conversion w.0 begun is w.1

can_end : (h : Classes) (program : TypedProgram) (s : ProgramState) (f : Planned) (e : PartEvent) (events : List PartEvent) (c : ClassId) → IsLastOf (whole_part f.object c) (e ∷ events) → IsPlanNext h s (with_events f (e ∷ events)) c → CanEnd h (with_objects s (objects_after program s.objects e)) f events c
can_end h program s f e events c last next none =
    let same : part_of e ≡ whole_part f.object c = subst (λ (xs : List PartEvent). IsLastOf (whole_part f.object c) (e ∷ xs)) none last in
    let begun = subst (λ (p : ObjectPart). HasBegun (objects_after program s.objects e) p) same (begun_behind h program s.objects e (next.fits e events refl)) in
    can_give h (with_objects s (objects_after program s.objects e)) (whole_part f.object c) c begun refl f.target next.waits

-- the step

event_is : (h : Classes) (sizes : ClassId → ℕ) (program : TypedProgram) (s : ProgramState) (f : Planned) (below : List Frame) (e : PartEvent) (events : List PartEvent) (new : Machine) (before after : Telling) (next : NextCode)
    → StepAgrees h sizes program (resumed program (with_objects s (objects_after program s.objects e)) f below (event_outs s.objects e) events) new before after next → StepAgrees h sizes program (event_step program s f below (e ∷ events)) new before after next
event_is h sizes program s f below (Begin p) events new before after next a = a
event_is h sizes program s f below (Ready p) events new before after next a = a
event_is h sizes program s f below (Init p m) events new before after next a = a
event_is h sizes program s f below (Body p) events new before after next a = tt
event_is h sizes program s f below (Done p) events new before after next a = a
event_is h sizes program s f below (Ending p) events new before after next a = a
event_is h sizes program s f below (Bases p) events new before after next a = a
event_is h sizes program s f below (End p) events new before after next a = a

-- the step of the frame's plan with these events
abbrev Steps : Classes → TypedProgram → (old new : Machine) → PlanFrame → (before after : Telling) → NextCode → List PartEvent → Type 0
Steps h program old new frame before after next events = (sizes : ClassId → ℕ) (s : ProgramState) (f : Planned) (below : List Frame) →
    IsPlanTaken h sizes program old frame s (with_events f events) below → IsPlanNext h s (with_events f events) frame.whole.class → StepAgrees h sizes program (event_step program s f below events) new before after next

steps_by : (h : Classes) (program : TypedProgram) (old mid new : Machine) (frame : PlanFrame) (plan : PlanCode) (code : PlanEvent) (before after : Telling) (next : NextCode) → Upcoming h program frame.plan (Some code) → TellsEvent h program old code before after → Happens h program old mid code
    → Advances h program frame.plan plan → Resumes h program mid new (with_plan frame plan) next → (events : List PartEvent) → Steps h program old new frame before after next events
steps_by h program old mid new frame plan code before after next means tells happens advances resumes [] sizes s f below t n = tt
steps_by h program old mid new frame plan code before after next means tells happens advances resumes (e ∷ events) sizes s f below t n =
    let is = means s.objects.classes (e ∷ events) t.plan_stands.plan_stands in
    let told = tells sizes (with_frames s below) e t.machine_stands is in
    let stands = happens sizes (with_frames s below) e t.machine_stands is (n.fits e events refl) in
    let x = with_objects s (objects_after program s.objects e) in
    let taken : IsPlanTaken h sizes program mid (with_plan frame plan) x (with_events f events) below = record { machine_stands = stands; plan_stands = plan_moved h program s.objects.classes frame plan f e events advances t.plan_stands; counts = t.counts } in
    event_is h sizes program s f below e events new before after next
    (resumes sizes x f events below (event_outs s.objects e) before after taken (can_end h program s f e events frame.whole.class t.plan_stands.ends_whole n) told)

pub steps : (h : Classes) (program : TypedProgram) (old mid new : Machine) (frame : PlanFrame) (plan : PlanCode) (code : PlanEvent) (before after : Telling) (next : NextCode) → Upcoming h program frame.plan (Some code) → TellsEvent h program old code before after → Happens h program old mid code
    → Advances h program frame.plan plan → Resumes h program mid new (with_plan frame plan) next → (sizes : ClassId → ℕ) (s : ProgramState) (f : Planned) (below : List Frame) → IsPlanTaken h sizes program old frame s f below → IsPlanNext h s f frame.whole.class → StepAgrees h sizes program (event_step program s f below f.events) new before after next
steps h program old mid new frame plan code before after next means tells happens advances resumes sizes s f below t n = steps_by h program old mid new frame plan code before after next means tells happens advances resumes f.events sizes s f below t n

-- a plan without events takes no step
no_event : (h : Classes) (sizes : ClassId → ℕ) (program : TypedProgram) (s : ProgramState) (f : Planned) (below : List Frame) (events : List PartEvent) (machine : Machine) (outs : Telling) (next : NextCode) → MeansNext h program s.objects.classes None events → StepAgrees h sizes program (event_step program s f below events) machine outs outs next
no_event h sizes program s f below [] machine outs next none = tt
no_event h sizes program s f below (e ∷ events) machine outs next none = absurd none

pub steps_none : (h : Classes) (program : TypedProgram) (machine : Machine) (frame : PlanFrame) (outs : Telling) (next : NextCode) → Upcoming h program frame.plan None
    → (sizes : ClassId → ℕ) (s : ProgramState) (f : Planned) (below : List Frame) → IsPlanTaken h sizes program machine frame s f below → IsPlanNext h s f frame.whole.class → StepAgrees h sizes program (event_step program s f below f.events) machine outs outs next
steps_none h program machine frame outs next means sizes s f below t n = no_event h sizes program s f below f.events machine outs next (means s.objects.classes f.events t.plan_stands.plan_stands)
