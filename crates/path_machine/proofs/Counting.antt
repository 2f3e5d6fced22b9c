-- A step makes one heap object at most, so that there are no more of them than steps.
use Rattle.std.proofs.Common.{ℕ, zero, suc, ◌+◌, ◌<◌, ◌≤◌, Option, Some, None, List, [], ◌∷◌, length, arith}
use Rattle.std.specs.Prelude.{slice_get}
use Rattle.foundation.proofs.Places.{length_pushed}
use Rattle.cxx_hierarchy.specs.declared.records.ClassId.{ClassId}
use Rattle.cxx_hierarchy.specs.Classes.{Classes}
use Rattle.cxx_overrider.specs.declared.FunctionId.{FunctionId}
use Rattle.cxx_subobject.specs.Locations.{ObjectPart}
use Rattle.cxx_program.specs.declared.statement.TypedCall.{TypedCall}
use Rattle.cxx_program.specs.declared.operand.Variable.{Variable}
use Rattle.cxx_program.specs.declared.operand.Variable.TheVariants.{Global, Local}
use Rattle.cxx_program.specs.declared.operand.Conversion.{Conversion}
use Rattle.cxx_program.specs.declared.statement.TypedPlace.{TypedPlace}
use Rattle.cxx_program.specs.declared.statement.Converted.{Converted}
use Rattle.cxx_program.specs.declared.statement.TypedRight.{TypedRight}
use Rattle.cxx_program.specs.declared.statement.TypedRight.TheVariants.{Operand, Arithmetic, SamePointer, Not, Read, Address, Call as CallRight, New, Cast, TypeEqual}
use Rattle.cxx_program.specs.declared.statement.TypedKind.{TypedKind}
use Rattle.cxx_program.specs.declared.statement.TypedKind.TheVariants.{Declare, Assign, Write, Copy, Call, Delete, If, While, Return, Print, PrintType, PrintView, Dump}
use Rattle.cxx_program.specs.declared.statement.TypedStatement.{TypedStatement}
use Rattle.cxx_program.specs.declared.program.Owner.{Owner}
use Rattle.cxx_program.specs.declared.program.Owner.TheVariants.{Main, Function, Constructor, Destructor}
use Rattle.cxx_program.specs.declared.program.TypedBody.{TypedBody}
use Rattle.cxx_program.specs.declared.program.TypedProgram.{TypedProgram}
use Rattle.path_rules.specs.declared.Undefined.{Undefined}
use Rattle.path_plan.specs.Whole.{whole_part}
use Rattle.path_plan.specs.Phases.{PartEvent, Begin, Ready, Init, Body, Done, Ending, Bases, End}
use Rattle.path_model.specs.declared.outs.Out.{Out}
use Rattle.path_model.specs.Values.{Value, Unset, Number, Null, Pointer, Sight, value_of_operand, argument_value}
use Rattle.path_model.specs.Uses.{receiver_value}
use Rattle.path_model.specs.States.{Target, RunningBody, Planned, Frame, InBody, InPlan, ProgramState, owned_body, assigned, with_frames, with_objects, sight, wanted_result}
use Rattle.path_model.specs.Rules.{statement_refusal, closing_refusal}
use Rattle.path_model.specs.Outs.{object_class}
use Rattle.path_model.specs.Effects.{Next, Goes, runs, body_entered, function_entered, called_at, taken, local_declared, written, copied_at, object_ended, deleted, branched, given_to_target, result_given, left_by, telling, kind_effect, effect, going_on_at}
use Rattle.path_model.specs.Steps.{objects_after, event_outs, body_owner, class_of_part, body_opened, plan_left, resumed, event_step, unless, constructor_closed, body_closed, before_kind, step_of_statement, next_in_body, body_step, frame_step, step}
use Rattle.path_model.specs.Runs.{limit_at, state_at}
use Rattle.path_model.proofs.KeptFrames.{IfGoes}
use Rattle.path_model.proofs.KeptSteps.{behind_move}
use Rattle.path_heap.specs.Rooms.{most_objects}
use Rattle.path_machine.specs.declared.state.PathState.{PathState}
use Rattle.path_machine.specs.Turns.{IsAtStep}

-- a state with so many objects, and one more at most
abbrev Has : ℕ → ProgramState → Type 0
Has n s = length s.objects.classes ≤ n

abbrev Few : ℕ → ProgramState → Type 0
Few n s = Has (n + 1) s

grown : (n : ℕ) (s : ProgramState) → Has n s → Few n s
grown n s a = omega arith

-- values and frames make none

assigned_few : (n : ℕ) (s : ProgramState) (variable : Variable) (v : Value) → Few n s → Few n (assigned s variable v)
assigned_few n s (Global m) v a = a
assigned_few n s (Local m) v a = a

given_few : (n : ℕ) (s : ProgramState) (v : Value) (target : Option Target) → Few n s → Few n (given_to_target s v target)
given_few n s v None a = a
given_few n s v (Some target) a = assigned_few n s target.variable _ a

result_few : (n : ℕ) (s : ProgramState) (found : Conversion) (target : Option Target) (o : Option Value) → Few n s → Few n (result_given s found target o)
result_few n s found target None a = a
result_few n s found target (Some v) a = given_few n s _ target a

left_few : (n : ℕ) (s : ProgramState) (owner : Owner) → Few n s → IfGoes (Few n) (left_by owner s)
left_few n s Main a = tt
left_few n s (Function g) a = a
left_few n s (Constructor c) a = tt
left_few n s (Destructor c) a = tt

telling_few : (n : ℕ) (s : ProgramState) (o : Option Out) → Few n s → IfGoes (Few n) (telling s o)
telling_few n s None a = tt
telling_few n s (Some out) a = a

branched_few : (n : ℕ) (s : ProgramState) (v : Value) (yes_at no_at : ℕ) → Few n s → IfGoes (Few n) (branched s v yes_at no_at)
branched_few n s Unset yes_at no_at a = tt
branched_few n s (Number z) yes_at no_at a = a
branched_few n s Null yes_at no_at a = tt
branched_few n s (Pointer p) yes_at no_at a = tt

ended_few : (n : ℕ) (h : Classes) (program : TypedProgram) (s : ProgramState) (k : ℕ) (o : Option ClassId) → Few n s → IfGoes (Few n) (object_ended h program s k o)
ended_few n h program s k None a = tt
ended_few n h program s k (Some c) a = a

deleted_few : (n : ℕ) (h : Classes) (program : TypedProgram) (s : ProgramState) (v : Value) → Few n s → IfGoes (Few n) (deleted h program s v)
deleted_few n h program s Unset a = tt
deleted_few n h program s (Number z) a = tt
deleted_few n h program s Null a = a
deleted_few n h program s (Pointer p) a = ended_few n h program s p.object (slice_get s.objects.classes p.object) a

written_few : (n : ℕ) (s : ProgramState) (place : TypedPlace) (new v : Value) → Few n s → IfGoes (Few n) (written s place new v)
written_few n s place new Unset a = tt
written_few n s place new (Number z) a = tt
written_few n s place new Null a = tt
written_few n s place new (Pointer p) a = a

copied_few : (n : ℕ) (h : Classes) (s : ProgramState) (c : ClassId) (to from : Value) → Few n s → IfGoes (Few n) (copied_at h s c to from)
copied_few n h s c Unset from a = tt
copied_few n h s c (Number z) from a = tt
copied_few n h s c Null from a = tt
copied_few n h s c (Pointer to) Unset a = tt
copied_few n h s c (Pointer to) (Number z) a = tt
copied_few n h s c (Pointer to) Null a = tt
copied_few n h s c (Pointer to) (Pointer from) a = a

entered_few : (n : ℕ) (h : Classes) (s : ProgramState) (values : List Value) (call : TypedCall) (target : Option Target) (run : ObjectPart × FunctionId) (o : Option TypedBody) → Few n s → IfGoes (Few n) (body_entered h s values call target run o)
entered_few n h s values call target run None a = tt
entered_few n h s values call target run (Some body) a = a

function_few : (n : ℕ) (h : Classes) (program : TypedProgram) (s : ProgramState) (values : List Value) (call : TypedCall) (target : Option Target) (o : Option (ObjectPart × FunctionId)) → Few n s → IfGoes (Few n) (function_entered h program s values call target o)
function_few n h program s values call target None a = tt
function_few n h program s values call target (Some run) a = entered_few n h s values call target run (owned_body program (Function run.1)) a

called_few : (n : ℕ) (h : Classes) (program : TypedProgram) (s : ProgramState) (values : List Value) (call : TypedCall) (target : Option Target) (v : Value) → Few n s → IfGoes (Few n) (called_at h program s values call target v)
called_few n h program s values call target Unset a = tt
called_few n h program s values call target (Number z) a = tt
called_few n h program s values call target Null a = tt
called_few n h program s values call target (Pointer p) a = function_few n h program s values call target (runs h s.objects call p) a

-- a `new` makes one

taken_few : (n : ℕ) (h : Classes) (program : TypedProgram) (see : Sight) (s : ProgramState) (variable : Variable) (right : TypedRight) (c : Conversion) → Has n s → IfGoes (Few n) (taken h program see s variable right c)
taken_few n h program see s variable (CallRight call) c a = called_few n h program s _ call _ (receiver_value see call) (grown n s a)
taken_few n h program see s variable (New d) c a = let e = length_pushed s.objects.classes d in omega (arith, e)
taken_few n h program see s variable (Operand x) c a = assigned_few n s variable _ (grown n s a)
taken_few n h program see s variable (Arithmetic op t x y) c a = assigned_few n s variable _ (grown n s a)
taken_few n h program see s variable (SamePointer differ x y) c a = assigned_few n s variable _ (grown n s a)
taken_few n h program see s variable (Not x) c a = assigned_few n s variable _ (grown n s a)
taken_few n h program see s variable (Read place) c a = assigned_few n s variable _ (grown n s a)
taken_few n h program see s variable (Address place d) c a = assigned_few n s variable _ (grown n s a)
taken_few n h program see s variable (Cast cast x) c a = assigned_few n s variable _ (grown n s a)
taken_few n h program see s variable (TypeEqual x d) c a = assigned_few n s variable _ (grown n s a)

declared_few : (n : ℕ) (h : Classes) (program : TypedProgram) (see : Sight) (s : ProgramState) (m : ℕ) (o : Option Converted) → Has n s → IfGoes (Few n) (local_declared h program see s m o)
declared_few n h program see s m None a = grown n s a
declared_few n h program see s m (Some x) a = taken_few n h program see s (Local m) x.right x.conversion a

kind_few : (n : ℕ) (h : Classes) (program : TypedProgram) (see : Sight) (s : ProgramState) (f : RunningBody) (below : List Frame) (at next : ℕ) (kind : TypedKind) → Has n s → IfGoes (Few n) (kind_effect h program see s f below at next kind)
kind_few n h program see s f below at next (Declare m x) a = declared_few n h program see s m x a
kind_few n h program see s f below at next (Assign variable x) a = taken_few n h program see s variable x.right x.conversion a
kind_few n h program see s f below at next (Write place x) a = written_few n s place (argument_value see x) (value_of_operand see place.pointer) (grown n s a)
kind_few n h program see s f below at next (Copy to from c) a = copied_few n h s c (value_of_operand see to) (value_of_operand see from) (grown n s a)
kind_few n h program see s f below at next (Call call) a = called_few n h program s _ call None (receiver_value see call) (grown n s a)
kind_few n h program see s f below at next (Delete x c) a = deleted_few n h program s (value_of_operand see x) (grown n s a)
kind_few n h program see s f below at next (If x other behind) a = branched_few n s (value_of_operand see x) _ _ (grown n s a)
kind_few n h program see s f below at next (While x behind) a = branched_few n s (value_of_operand see x) _ _ (grown n s a)
kind_few n h program see s f below at next (Return x) a = left_few n _ f.owner (result_few n (with_frames s below) f.found f.target _ (grown n s a))
kind_few n h program see s f below at next (Print x) a = telling_few n s _ (grown n s a)
kind_few n h program see s f below at next (PrintType x c) a = telling_few n s _ (grown n s a)
kind_few n h program see s f below at next (PrintView x c) a = telling_few n s _ (grown n s a)
kind_few n h program see s f below at next (Dump x c) a = telling_few n s _ (grown n s a)

-- events make none

opened_few : (n : ℕ) (s : ProgramState) (p : ObjectPart) (outs : List Out) (frames : List Frame) (o : Option TypedBody) → Few n s → IfGoes (Few n) (body_opened s p outs frames o)
opened_few n s p outs frames None a = tt
opened_few n s p outs frames (Some body) a = a

resumed_few : (n : ℕ) (program : TypedProgram) (s : ProgramState) (f : Planned) (below : List Frame) (outs : List Out) (events : List PartEvent) → Few n s → IfGoes (Few n) (resumed program s f below outs events)
resumed_few n program s f below outs [] a = given_few n (with_frames s below) (Pointer (whole_part f.object (object_class s.objects f.object))) f.target a
resumed_few n program s f below outs (Body p ∷ events) a = opened_few n s p outs (plan_left f events ∷ below) (owned_body program (body_owner f.is_building (class_of_part p))) a
resumed_few n program s f below outs (Begin p ∷ events) a = a
resumed_few n program s f below outs (Ready p ∷ events) a = a
resumed_few n program s f below outs (Init p m ∷ events) a = a
resumed_few n program s f below outs (Done p ∷ events) a = a
resumed_few n program s f below outs (Ending p ∷ events) a = a
resumed_few n program s f below outs (Bases p ∷ events) a = a
resumed_few n program s f below outs (End p ∷ events) a = a

event_few : (n : ℕ) (program : TypedProgram) (s : ProgramState) (f : Planned) (below : List Frame) (events : List PartEvent) → Few n s → IfGoes (Few n) (event_step program s f below events)
event_few n program s f below [] a = tt
event_few n program s f below (Body p ∷ events) a = tt
event_few n program s f below (Begin p ∷ events) a = resumed_few n program (with_objects s (objects_after program s.objects (Begin p))) f below (event_outs s.objects (Begin p)) events a
event_few n program s f below (Ready p ∷ events) a = resumed_few n program (with_objects s (objects_after program s.objects (Ready p))) f below (event_outs s.objects (Ready p)) events a
event_few n program s f below (Init p m ∷ events) a = resumed_few n program (with_objects s (objects_after program s.objects (Init p m))) f below (event_outs s.objects (Init p m)) events a
event_few n program s f below (Done p ∷ events) a = resumed_few n program (with_objects s (objects_after program s.objects (Done p))) f below (event_outs s.objects (Done p)) events a
event_few n program s f below (Ending p ∷ events) a = resumed_few n program (with_objects s (objects_after program s.objects (Ending p))) f below (event_outs s.objects (Ending p)) events a
event_few n program s f below (Bases p ∷ events) a = resumed_few n program (with_objects s (objects_after program s.objects (Bases p))) f below (event_outs s.objects (Bases p)) events a
event_few n program s f below (End p ∷ events) a = resumed_few n program (with_objects s (objects_after program s.objects (End p))) f below (event_outs s.objects (End p)) events a

-- each step

unless_few : (n : ℕ) (o : Option Undefined) (line : ℕ) (next : Next) → IfGoes (Few n) next → IfGoes (Few n) (unless o line next)
unless_few n None line next a = a
unless_few n (Some rule) line next a = tt

constructor_few : (n : ℕ) (program : TypedProgram) (s : ProgramState) (below : List Frame) → Few n s → IfGoes (Few n) (constructor_closed program s below)
constructor_few n program s [] a = tt
constructor_few n program s (InBody f ∷ below) a = tt
constructor_few n program s (InPlan f ∷ below) a = event_few n program s f below f.events a

closed_few : (n : ℕ) (h : Classes) (program : TypedProgram) (s : ProgramState) (owner : Owner) (line : ℕ) (below : List Frame) → Few n s → IfGoes (Few n) (body_closed h program s owner line below)
closed_few n h program s Main line below a = tt
closed_few n h program s (Function g) line below a = unless_few n (closing_refusal h s.objects g) line (Goes (with_frames s below) []) a
closed_few n h program s (Constructor c) line below a = constructor_few n program s below a
closed_few n h program s (Destructor c) line below a = a

statement_few : (n : ℕ) (h : Classes) (program : TypedProgram) (s : ProgramState) (f : RunningBody) (below : List Frame) (at : ℕ) (statement : TypedStatement) → Has n s → IfGoes (Few n) (step_of_statement h program s f below at statement)
statement_few n h program s f below at statement a =
    unless_few n (statement_refusal h (sight s f) (wanted_result f) statement.kind) statement.line (effect h program (with_frames s (InBody f ∷ below)) f below at statement)
    (kind_few n h program (sight (with_frames s (InBody f ∷ below)) f) (going_on_at (with_frames s (InBody f ∷ below)) statement.next) f below at statement.next statement.kind a)

next_few : (n : ℕ) (h : Classes) (program : TypedProgram) (s : ProgramState) (f : RunningBody) (below : List Frame) (body : TypedBody) (o : Option TypedStatement) → Has n s → IfGoes (Few n) (next_in_body h program s f below body o)
next_few n h program s f below body None a = closed_few n h program s f.owner body.close_line below (grown n s a)
next_few n h program s f below body (Some statement) a = statement_few n h program s (before_kind f statement.kind) below f.next statement a

body_few : (n : ℕ) (h : Classes) (program : TypedProgram) (s : ProgramState) (f : RunningBody) (below : List Frame) (o : Option TypedBody) → Has n s → IfGoes (Few n) (body_step h program s f below o)
body_few n h program s f below None a = tt
body_few n h program s f below (Some body) a = next_few n h program s f below body (slice_get body.statements f.next) a

frames_few : (n : ℕ) (h : Classes) (program : TypedProgram) (s : ProgramState) (frames : List Frame) → Has n s → IfGoes (Few n) (frame_step h program s frames)
frames_few n h program s [] a = tt
frames_few n h program s (InBody f ∷ below) a = body_few n h program s f below (owned_body program f.owner) a
frames_few n h program s (InPlan f ∷ below) a = event_few n program s f below f.events (grown n s a)

state_few : (h : Classes) (sizes : ClassId → ℕ) (program : TypedProgram) (n : ℕ) → Has n (state_at h sizes program n)
state_few h sizes program zero = let e : 0 ≤ 0 = omega arith in e
state_few h sizes program (suc n) =
    let s = state_at h sizes program n in
    let a = state_few h sizes program n in
    let b : Few n (state_at h sizes program (suc n)) = behind_move (Few n) (step h program s) (limit_at sizes program s) s (grown n s a) (frames_few n h program s s.frames a) in
    omega (arith, b)

-- before a step there are fewer objects than there may be
pub objects_few : (h : Classes) (sizes : ClassId → ℕ) (program : TypedProgram) (state : PathState) → IsAtStep h sizes program state → state.taken < state.budget → length state.machine.heap.objects.items < most_objects
objects_few h sizes program state a room =
    let few = state_few h sizes program state.taken in
    let size = a.machine_stands.heap_stands.counts.objects in
    let most = a.few in omega (arith, few, size, most, room)
