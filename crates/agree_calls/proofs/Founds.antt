-- In each state of a run the result of a body that runs keeps its number, or its pointer is moved to a base.
use Rattle.agree_calls.proofs.Returns.{MovesResult}
use Rattle.cxx_hierarchy.specs.Classes.{Classes}
use Rattle.cxx_hierarchy.specs.declared.records.ClassId.{ClassId}
use Rattle.cxx_hierarchy.specs.declared.records.ReturnType.{ReturnType}
use Rattle.cxx_hierarchy.specs.declared.records.ReturnType.TheVariants.{Value as ValueReturn, Void}
use Rattle.cxx_hierarchy.specs.declared.records.ValueType.TheVariants.{Number as NumberType, Pointer as PointerType}
use Rattle.cxx_hierarchy.specs.declared.stop.LimitNo.{LimitNo}
use Rattle.cxx_overrider.specs.Functions.{return_of}
use Rattle.cxx_overrider.specs.declared.FunctionId.{FunctionId}
use Rattle.cxx_program.specs.declared.operand.Conversion.{Conversion}
use Rattle.cxx_program.specs.declared.operand.Conversion.TheVariants.{Same as ToSame}
use Rattle.cxx_program.specs.declared.operand.Variable.{Variable}
use Rattle.cxx_program.specs.declared.operand.Variable.TheVariants.{Global, Local}
use Rattle.cxx_program.specs.declared.program.Owner.{Owner}
use Rattle.cxx_program.specs.declared.program.Owner.TheVariants.{Constructor, Destructor, Function, Main}
use Rattle.cxx_program.specs.declared.program.TypedBody.{TypedBody}
use Rattle.cxx_program.specs.declared.program.TypedProgram.{TypedProgram}
use Rattle.cxx_program.specs.declared.statement.Converted.{Converted}
use Rattle.cxx_program.specs.declared.statement.TypedCall.{TypedCall}
use Rattle.cxx_program.specs.declared.statement.TypedKind.{TypedKind}
use Rattle.cxx_program.specs.declared.statement.TypedKind.TheVariants.{Assign, Call, Copy, Declare, Delete, Dump, If, Print, PrintType, PrintView, Return, While, Write}
use Rattle.cxx_program.specs.declared.statement.TypedPlace.{TypedPlace}
use Rattle.cxx_program.specs.declared.statement.TypedRight.{TypedRight}
use Rattle.cxx_program.specs.declared.statement.TypedRight.TheVariants.{Address, Arithmetic, Call as CallRight, Cast, New, Not, Operand, Read, SamePointer, TypeEqual}
use Rattle.cxx_program.specs.declared.statement.TypedStatement.{TypedStatement}
use Rattle.cxx_subobject.specs.Subobjects.{is_of_class}
use Rattle.cxx_subobject.specs.Locations.{ObjectPart}
use Rattle.cxx_subobject.specs.Preorder.{preorder}
use Rattle.cxx_subobject.specs.declared.Subobject.{Subobject}
use Rattle.path_model.specs.Effects.{Ends, Goes, Next, Refuses, Wrong, base_conversion, body_entered, branched, called_at, copied_at, local_declared, deleted, effect, frames_at, function_entered, given_to_target, going_on_at, kind_effect, left_by, object_ended, result_conversion, result_given, taken, telling, written}
use Rattle.path_model.specs.Outs.{object_class}
use Rattle.path_model.specs.Rules.{closing_refusal, statement_refusal}
use Rattle.path_model.specs.Runs.{limit_at, main_frames, move_by, state_at, state_behind, within}
use Rattle.path_model.specs.States.{Frame, InBody, InPlan, Planned, RunningBody, ProgramState, Target, assigned, owned_body, sight, wanted_result, with_frames, with_local_in, with_objects}
use Rattle.path_model.specs.Steps.{before_kind, body_opened, body_step, body_closed, constructor_closed, event_outs, event_step, frame_step, next_in_body, objects_after, plan_left, resumed, step, unless}
use Rattle.path_model.specs.Values.{Null, Number, Pointer, Sight, Unset, Value}
use Rattle.path_model.specs.declared.outs.Out.{Out}
use Rattle.path_plan.specs.Phases.{Bases, Begin, Body, Done, End, Ending, PartEvent, Init, Ready}
use Rattle.path_plan.specs.Whole.{whole_part}
use Rattle.path_rules.specs.declared.Undefined.{Undefined}
use Rattle.std.proofs.Common.{◌≡◌, subst, ℕ, zero, suc, Bool, true, false, Option, Some, None, List, [], ◌∷◌}
use Rattle.std.specs.Prelude.{if◌then◌else◌, find, nat_eq, slice_get}

-- so it is of each body of these frames
abbrev pub AllMove : List Frame → Type 0
AllMove [] = Unit {0}
AllMove (InBody f ∷ below) = MovesResult f.found × AllMove below
AllMove (InPlan f ∷ below) = AllMove below

-- and of those of the state to which a step leads
abbrev pub AllMoveNext : Next → Type 0
AllMoveNext (Goes s outs) = AllMove s.frames
AllMoveNext (Refuses rule line) = Unit {0}
AllMoveNext Ends = Unit {0}
AllMoveNext Wrong = Unit {0}

-- results of functions

by_test : (x : Bool) (c : Conversion) → MovesResult c → MovesResult (if x then ToSame else c)
by_test true c moves = tt
by_test false c moves = moves

base_moves : (o : Option Subobject) → MovesResult (base_conversion o)
base_moves None = tt
base_moves (Some i) = tt

result_moves : (h : Classes) (a b : Option (ReturnType ClassId)) → MovesResult (result_conversion h a b)
result_moves h None b = tt
result_moves h (Some Void) b = tt
result_moves h (Some (ValueReturn (NumberType t))) b = tt
result_moves h (Some (ValueReturn (PointerType c))) None = tt
result_moves h (Some (ValueReturn (PointerType c))) (Some Void) = tt
result_moves h (Some (ValueReturn (PointerType c))) (Some (ValueReturn (NumberType t))) = tt
result_moves h (Some (ValueReturn (PointerType c))) (Some (ValueReturn (PointerType d))) = by_test (nat_eq c.0 d.0) (base_conversion (find (is_of_class d) (preorder h c))) (base_moves (find (is_of_class d) (preorder h c)))

-- statements

local_moves : (frames : List Frame) (n : ℕ) (v : Value) → AllMove frames → AllMove (with_local_in frames n v)
local_moves [] n v a = tt
local_moves (InBody f ∷ below) n v a = a
local_moves (InPlan f ∷ below) n v a = a

assigned_moves : (s : ProgramState) (x : Variable) (v : Value) → AllMove s.frames → AllMove (assigned s x v).frames
assigned_moves s (Global n) v a = a
assigned_moves s (Local n) v a = local_moves s.frames n v a

given_moves : (s : ProgramState) (v : Value) (target : Option Target) → AllMove s.frames → AllMove (given_to_target s v target).frames
given_moves s v None a = a
given_moves s v (Some target) a = assigned_moves s target.variable _ a

at_moves : (frames : List Frame) (n : ℕ) → AllMove frames → AllMove (frames_at frames n)
at_moves [] n a = tt
at_moves (InBody f ∷ below) n a = a
at_moves (InPlan f ∷ below) n a = a

entered_moves : (h : Classes) (s : ProgramState) (values : List Value) (call : TypedCall) (target : Option Target) (run : ObjectPart × FunctionId) (o : Option TypedBody) → AllMove s.frames → AllMoveNext (body_entered h s values call target run o)
entered_moves h s values call target run None a = tt
entered_moves h s values call target run (Some body) a = (result_moves h (return_of h run.1) (return_of h call.function), a)

function_moves : (h : Classes) (program : TypedProgram) (s : ProgramState) (values : List Value) (call : TypedCall) (target : Option Target) (o : Option (ObjectPart × FunctionId)) → AllMove s.frames → AllMoveNext (function_entered h program s values call target o)
function_moves h program s values call target None a = tt
function_moves h program s values call target (Some run) a = entered_moves h s values call target run (owned_body program (Function run.1)) a

called_moves : (h : Classes) (program : TypedProgram) (s : ProgramState) (values : List Value) (call : TypedCall) (target : Option Target) (v : Value) → AllMove s.frames → AllMoveNext (called_at h program s values call target v)
called_moves h program s values call target Unset a = tt
called_moves h program s values call target (Number z) a = tt
called_moves h program s values call target Null a = tt
called_moves h program s values call target (Pointer p) a = function_moves h program s values call target _ a

taken_moves : (h : Classes) (program : TypedProgram) (see : Sight) (s : ProgramState) (x : Variable) (right : TypedRight) (c : Conversion) → AllMove s.frames → AllMoveNext (taken h program see s x right c)
taken_moves h program see s x (Operand p) c a = assigned_moves s x _ a
taken_moves h program see s x (Arithmetic op t p q) c a = assigned_moves s x _ a
taken_moves h program see s x (SamePointer differ p q) c a = assigned_moves s x _ a
taken_moves h program see s x (Not p) c a = assigned_moves s x _ a
taken_moves h program see s x (Read place) c a = assigned_moves s x _ a
taken_moves h program see s x (Address place d) c a = assigned_moves s x _ a
taken_moves h program see s x (CallRight call) c a = called_moves h program s _ call _ _ a
taken_moves h program see s x (New d) c a = a
taken_moves h program see s x (Cast cast p) c a = assigned_moves s x _ a
taken_moves h program see s x (TypeEqual p d) c a = assigned_moves s x _ a

declared_moves : (h : Classes) (program : TypedProgram) (see : Sight) (s : ProgramState) (n : ℕ) (x : Option Converted) → AllMove s.frames → AllMoveNext (local_declared h program see s n x)
declared_moves h program see s n None a = a
declared_moves h program see s n (Some x) a = taken_moves h program see s (Local n) x.right x.conversion a

written_moves : (s : ProgramState) (place : TypedPlace) (v to : Value) → AllMove s.frames → AllMoveNext (written s place v to)
written_moves s place v Unset a = tt
written_moves s place v (Number z) a = tt
written_moves s place v Null a = tt
written_moves s place v (Pointer p) a = a

copied_moves : (h : Classes) (s : ProgramState) (c : ClassId) (to from : Value) → AllMove s.frames → AllMoveNext (copied_at h s c to from)
copied_moves h s c (Pointer to) (Pointer from) a = a
copied_moves h s c (Pointer to) Unset a = tt
copied_moves h s c (Pointer to) (Number z) a = tt
copied_moves h s c (Pointer to) Null a = tt
copied_moves h s c Unset from a = tt
copied_moves h s c (Number z) from a = tt
copied_moves h s c Null from a = tt

ended_moves : (h : Classes) (program : TypedProgram) (s : ProgramState) (k : ℕ) (o : Option ClassId) → AllMove s.frames → AllMoveNext (object_ended h program s k o)
ended_moves h program s k None a = tt
ended_moves h program s k (Some c) a = a

deleted_moves : (h : Classes) (program : TypedProgram) (s : ProgramState) (v : Value) → AllMove s.frames → AllMoveNext (deleted h program s v)
deleted_moves h program s Unset a = tt
deleted_moves h program s (Number z) a = tt
deleted_moves h program s Null a = a
deleted_moves h program s (Pointer p) a = ended_moves h program s p.object _ a

branched_moves : (s : ProgramState) (v : Value) (yes_at no_at : ℕ) → AllMove s.frames → AllMoveNext (branched s v yes_at no_at)
branched_moves s Unset yes_at no_at a = tt
branched_moves s (Number z) yes_at no_at a = at_moves s.frames _ a
branched_moves s Null yes_at no_at a = tt
branched_moves s (Pointer p) yes_at no_at a = tt

result_given_moves : (s : ProgramState) (found : Conversion) (target : Option Target) (v : Option Value) → AllMove s.frames → AllMove (result_given s found target v).frames
result_given_moves s found target None a = a
result_given_moves s found target (Some v) a = given_moves s _ target a

left_moves : (o : Owner) (s : ProgramState) → AllMove s.frames → AllMoveNext (left_by o s)
left_moves Main s a = tt
left_moves (Function g) s a = a
left_moves (Constructor c) s a = tt
left_moves (Destructor c) s a = tt

telling_moves : (s : ProgramState) (o : Option Out) → AllMove s.frames → AllMoveNext (telling s o)
telling_moves s None a = tt
telling_moves s (Some out) a = a

kind_moves : (h : Classes) (program : TypedProgram) (see : Sight) (on : ProgramState) (f : RunningBody) (below : List Frame) (n next : ℕ) (kind : TypedKind) → AllMove on.frames → AllMove below → AllMoveNext (kind_effect h program see on f below n next kind)
kind_moves h program see on f below n next (Declare m x) a b = declared_moves h program see on m x a
kind_moves h program see on f below n next (Assign variable x) a b = taken_moves h program see on variable x.right x.conversion a
kind_moves h program see on f below n next (Write place x) a b = written_moves on place _ _ a
kind_moves h program see on f below n next (Copy to from c) a b = copied_moves h on c _ _ a
kind_moves h program see on f below n next (Call call) a b = called_moves h program on _ call None _ a
kind_moves h program see on f below n next (Delete x c) a b = deleted_moves h program on _ a
kind_moves h program see on f below n next (If x other behind) a b = branched_moves on _ _ _ a
kind_moves h program see on f below n next (While x behind) a b = branched_moves on _ _ _ a
kind_moves h program see on f below n next (Return x) a b = left_moves f.owner _ (result_given_moves (with_frames on below) f.found f.target _ b)
kind_moves h program see on f below n next (Print x) a b = telling_moves on _ a
kind_moves h program see on f below n next (PrintType x c) a b = telling_moves on _ a
kind_moves h program see on f below n next (PrintView x c) a b = telling_moves on _ a
kind_moves h program see on f below n next (Dump x c) a b = telling_moves on _ a

-- steps

unless_moves : (o : Option Undefined) (line : ℕ) (next : Next) → AllMoveNext next → AllMoveNext (unless o line next)
unless_moves None line next a = a
unless_moves (Some rule) line next a = tt

opened_moves : (s : ProgramState) (p : ObjectPart) (outs : List Out) (frames : List Frame) (o : Option TypedBody) → AllMove frames → AllMoveNext (body_opened s p outs frames o)
opened_moves s p outs frames None a = tt
opened_moves s p outs frames (Some body) a = (tt, a)

resumed_moves : (program : TypedProgram) (s : ProgramState) (f : Planned) (below : List Frame) (outs : List Out) (events : List PartEvent) → AllMove below → AllMoveNext (resumed program s f below outs events)
resumed_moves program s f below outs [] a = given_moves (with_frames s below) (Pointer (whole_part f.object (object_class s.objects f.object))) f.target a
resumed_moves program s f below outs (Body p ∷ events) a = opened_moves s p outs (plan_left f events ∷ below) (owned_body program _) a
resumed_moves program s f below outs (Begin p ∷ events) a = a
resumed_moves program s f below outs (Ready p ∷ events) a = a
resumed_moves program s f below outs (Init p m ∷ events) a = a
resumed_moves program s f below outs (Done p ∷ events) a = a
resumed_moves program s f below outs (Ending p ∷ events) a = a
resumed_moves program s f below outs (Bases p ∷ events) a = a
resumed_moves program s f below outs (End p ∷ events) a = a

went_moves : (program : TypedProgram) (s : ProgramState) (f : Planned) (below : List Frame) (e : PartEvent) (events : List PartEvent) → AllMove below → AllMoveNext (resumed program (with_objects s (objects_after program s.objects e)) f below (event_outs s.objects e) events)
went_moves program s f below e events a = resumed_moves program (with_objects s (objects_after program s.objects e)) f below (event_outs s.objects e) events a

event_moves : (program : TypedProgram) (s : ProgramState) (f : Planned) (below : List Frame) (events : List PartEvent) → AllMove below → AllMoveNext (event_step program s f below events)
event_moves program s f below [] a = tt
event_moves program s f below (Body p ∷ events) a = tt
event_moves program s f below (Begin p ∷ events) a = went_moves program s f below (Begin p) events a
event_moves program s f below (Ready p ∷ events) a = went_moves program s f below (Ready p) events a
event_moves program s f below (Init p m ∷ events) a = went_moves program s f below (Init p m) events a
event_moves program s f below (Done p ∷ events) a = went_moves program s f below (Done p) events a
event_moves program s f below (Ending p ∷ events) a = went_moves program s f below (Ending p) events a
event_moves program s f below (Bases p ∷ events) a = went_moves program s f below (Bases p) events a
event_moves program s f below (End p ∷ events) a = went_moves program s f below (End p) events a

constructor_moves : (program : TypedProgram) (s : ProgramState) (below : List Frame) → AllMove below → AllMoveNext (constructor_closed program s below)
constructor_moves program s [] a = tt
constructor_moves program s (InBody f ∷ below) a = tt
constructor_moves program s (InPlan f ∷ below) a = event_moves program s f below f.events a

closed_moves : (h : Classes) (program : TypedProgram) (s : ProgramState) (o : Owner) (line : ℕ) (below : List Frame) → AllMove below → AllMoveNext (body_closed h program s o line below)
closed_moves h program s Main line below a = tt
closed_moves h program s (Function g) line below a = unless_moves (closing_refusal h s.objects g) line (Goes (with_frames s below) []) a
closed_moves h program s (Constructor c) line below a = constructor_moves program s below a
closed_moves h program s (Destructor c) line below a = a

before_moves : (f : RunningBody) (kind : TypedKind) → MovesResult f.found → MovesResult (before_kind f kind).found
before_moves f (Declare n x) a = a
before_moves f other a = a

in_body_moves : (h : Classes) (program : TypedProgram) (s : ProgramState) (f : RunningBody) (below : List Frame) (body : TypedBody) (o : Option TypedStatement) → MovesResult f.found → AllMove below → AllMoveNext (next_in_body h program s f below body o)
in_body_moves h program s f below body None a b = closed_moves h program s f.owner body.close_line below b
in_body_moves h program s f below body (Some statement) a b =
    let on = before_kind f statement.kind in
    let frames = InBody on ∷ below in
    unless_moves (statement_refusal h (sight s on) (wanted_result on) statement.kind) statement.line (effect h program (with_frames s frames) on below f.next statement)
    (kind_moves h program (sight (with_frames s frames) on) (going_on_at (with_frames s frames) statement.next) on below f.next statement.next statement.kind (before_moves f statement.kind a, b) b)

body_moves : (h : Classes) (program : TypedProgram) (s : ProgramState) (f : RunningBody) (below : List Frame) (o : Option TypedBody) → MovesResult f.found → AllMove below → AllMoveNext (body_step h program s f below o)
body_moves h program s f below None a b = tt
body_moves h program s f below (Some body) a b = in_body_moves h program s f below body (slice_get body.statements f.next) a b

frame_moves : (h : Classes) (program : TypedProgram) (s : ProgramState) (frames : List Frame) → AllMove frames → AllMoveNext (frame_step h program s frames)
frame_moves h program s [] a = tt
frame_moves h program s (InBody f ∷ below) a = body_moves h program s f below (owned_body program f.owner) a.0 a.1
frame_moves h program s (InPlan f ∷ below) a = event_moves program s f below f.events a

-- runs

within_moves : (limit : Option LimitNo) (new s : ProgramState) (outs : List Out) → AllMove new.frames → AllMove s.frames → AllMove (state_behind (within limit new outs) s).frames
within_moves None new s outs a b = a
within_moves (Some limit) new s outs a b = b

next_moves : (next : Next) (limit : Option LimitNo) (s : ProgramState) → AllMoveNext next → AllMove s.frames → AllMove (state_behind (move_by next limit) s).frames
next_moves (Goes new outs) limit s a b = within_moves limit new s outs a b
next_moves (Refuses rule line) limit s a b = b
next_moves Ends limit s a b = b
next_moves Wrong limit s a b = b

start_moves : (o : Option TypedBody) → AllMove (main_frames o)
start_moves None = tt
start_moves (Some body) = (tt, tt)

pub results_move : (h : Classes) (sizes : ClassId → ℕ) (program : TypedProgram) (n : ℕ) → AllMove (state_at h sizes program n).frames
results_move h sizes program zero = start_moves program.main
results_move h sizes program (suc n) =
    let s = state_at h sizes program n in
    let before = results_move h sizes program n in
    next_moves (step h program s) (limit_at sizes program s) s (frame_moves h program s s.frames before) before

-- of the body on top of such a state
pub found_moves : (h : Classes) (sizes : ClassId → ℕ) (program : TypedProgram) (n : ℕ) (f : RunningBody) (below : List Frame) → (state_at h sizes program n).frames ≡ InBody f ∷ below → MovesResult f.found
found_moves h sizes program n f below e = (subst (λ (frames : List Frame). AllMove frames) e (results_move h sizes program n)).0
