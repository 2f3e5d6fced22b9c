-- One step of a run: a statement, a condition, an event of a plan, or the end of a body.
use Rattle.std.specs.Prelude.{ℕ, Bool, true, false, if◌then◌else◌, Option, Some, None, List, [], ◌∷◌, slice_get}
use Rattle.std.specs.Option.{option_map_or}
use Rattle.cxx_hierarchy.specs.declared.records.ClassId.{ClassId}
use Rattle.cxx_hierarchy.specs.Classes.{Classes}
use Rattle.cxx_subobject.specs.Subobjects.{class_of}
use Rattle.cxx_subobject.specs.Locations.{ObjectPart}
use Rattle.cxx_overrider.specs.declared.FunctionId.{FunctionId}
use Rattle.cxx_program.specs.declared.operand.TypedOperand.{TypedOperand}
use Rattle.cxx_program.specs.declared.operand.TypedOperand.TheVariants.{Number as NumberOperand}
use Rattle.cxx_program.specs.declared.operand.Conversion.TheVariants.{Same as ToSame}
use Rattle.cxx_program.specs.declared.statement.TypedKind.{TypedKind}
use Rattle.cxx_program.specs.declared.statement.TypedKind.TheVariants.{Declare}
use Rattle.cxx_program.specs.declared.statement.TypedStatement.{TypedStatement}
use Rattle.cxx_program.specs.declared.program.Owner.{Owner}
use Rattle.cxx_program.specs.declared.program.Owner.TheVariants.{Main, Function, Constructor, Destructor}
use Rattle.cxx_program.specs.declared.program.TypedInit.{TypedInit}
use Rattle.cxx_program.specs.declared.program.TypedBody.{TypedBody}
use Rattle.cxx_program.specs.declared.program.TypedProgram.{TypedProgram}
use Rattle.path_rules.specs.declared.Undefined.{Undefined}
use Rattle.path_plan.specs.Places.{same_part}
use Rattle.path_plan.specs.Phases.{PartEvent, Init, Body, Done, Ending, End, phases_after}
use Rattle.path_plan.specs.Whole.{whole_part}
use Rattle.path_model.specs.declared.outs.Out.{Out}
use Rattle.path_model.specs.declared.outs.Out.TheVariants.{Built as BuiltOut, Ending as EndingOut}
use Rattle.path_model.specs.Values.{Value, Unset, Number, Pointer, Leaf, Objects, converted_to}
use Rattle.path_model.specs.Places.{leaf}
use Rattle.path_model.specs.Rules.{statement_refusal, closing_refusal}
use Rattle.path_model.specs.States.{RunningBody, Planned, Frame, InBody, InPlan, ProgramState, owned_body, member_init, with_objects, with_frames, with_local, entered_body, sight, wanted_result}
use Rattle.path_model.specs.Outs.{object_class, class_or_first, location_of}
use Rattle.path_model.specs.Effects.{Next, Goes, Refuses, Ends, Wrong, with_leaf, effect, given_to_target}

-- events

-- an initializer is a number
abbrev pub constant : TypedOperand → Value
constant (NumberOperand z) = Number z
constant other = Unset

-- the value that an initializer gives (ISO C++03 12.6.2)
abbrev pub init_value : Option TypedInit → Value
init_value own = option_map_or (λ init. converted_to (constant init.operand) init.conversion) own Unset

-- the class of a part
abbrev pub class_of_part : ObjectPart → ClassId
class_of_part p = class_or_first (class_of p.at)

-- the leaves after an event: an initializer sets one
abbrev pub leaves_after : TypedProgram → (Leaf → Value) → PartEvent → Leaf → Value
leaves_after program values (Init p m) = with_leaf values (leaf p m 0) (init_value (member_init program (class_of_part p) m))
leaves_after program values other = values

-- a heap object is closed by the end of its whole
abbrev pub ends_object : Objects → PartEvent → ℕ → Bool
ends_object s (End p) k = same_part p (whole_part k (object_class s k))
ends_object s other k = false

-- the objects after an event
abbrev pub objects_after : TypedProgram → Objects → PartEvent → Objects
objects_after program s e = record {
  classes = s.classes;
  is_closed = λ k. if ends_object s e k then true else s.is_closed k;
  phases = phases_after s.phases e;
  leaf = leaves_after program s.leaf e;
}

-- what an event tells
abbrev pub event_outs : Objects → PartEvent → List Out
event_outs s (Done p) = BuiltOut (class_of_part p) (location_of s p) ∷ []
event_outs s (Ending p) = EndingOut (class_of_part p) (location_of s p) ∷ []
event_outs s other = []

-- whose body a plan runs
abbrev pub body_owner : Bool → ClassId → Owner
body_owner is_building c = if is_building then Constructor c else Destructor c

-- the body of a constructor or destructor, on top of its plan
abbrev pub body_opened : ProgramState → ObjectPart → List Out → List Frame → Option TypedBody → Next
body_opened s p outs frames own = option_map_or (λ body. Goes (with_frames s (InBody (entered_body body (Pointer p) [] ToSame None) ∷ frames)) outs) own Wrong

-- the plan with these events left
abbrev pub plan_left : Planned → List PartEvent → Frame
plan_left f events = InPlan (record { object = f.object; is_building = f.is_building; events = events; target = f.target })

-- the plan goes on with these events: a body is entered in the step of the event before it, and with the last event the pointer
-- to the object is given to who waits for it
abbrev pub resumed : TypedProgram → ProgramState → Planned → List Frame → List Out → List PartEvent → Next
resumed program s f below outs [] = Goes (given_to_target (with_frames s below) (Pointer (whole_part f.object (object_class s.objects f.object))) f.target) outs
resumed program s f below outs (Body p ∷ events) = body_opened s p outs (plan_left f events ∷ below) (owned_body program (body_owner f.is_building (class_of_part p)))
resumed program s f below outs (e ∷ events) = Goes (with_frames s (plan_left f (e ∷ events) ∷ below)) outs

-- the next event of a plan
abbrev pub event_step : TypedProgram → ProgramState → Planned → List Frame → List PartEvent → Next
event_step program s f below [] = Wrong
event_step program s f below (Body p ∷ events) = Wrong
event_step program s f below (e ∷ events) = resumed program (with_objects s (objects_after program s.objects e)) f below (event_outs s.objects e) events

-- a step that a rule refuses is not taken
abbrev pub unless : Option Undefined → ℕ → Next → Next
unless refusal line next = option_map_or (λ rule. Refuses rule line) refusal next

-- the end of a body

-- the end of a function without a result (ISO C++03 6.6.3 p2)
abbrev pub function_closed : Classes → ProgramState → FunctionId → ℕ → List Frame → Next
function_closed h s g line below = unless (closing_refusal h s.objects g) line (Goes (with_frames s below) [])

-- the closing step of a constructor's body is its event
abbrev pub constructor_closed : TypedProgram → ProgramState → List Frame → Next
constructor_closed program s (InPlan f ∷ below) = event_step program s f below f.events
constructor_closed program s other = Wrong

-- the closing step of a body
abbrev pub body_closed : Classes → TypedProgram → ProgramState → Owner → ℕ → List Frame → Next
body_closed h program s Main line below = Ends
body_closed h program s (Function g) line below = function_closed h s g line below
body_closed h program s (Constructor c) line below = constructor_closed program s below
body_closed h program s (Destructor c) line below = Goes (with_frames s below) []

-- statements

-- a declaration makes its variable unset before its right side is read (ISO C++03 3.3.1)
abbrev pub before_kind : RunningBody → TypedKind → RunningBody
before_kind f (Declare n x) = with_local f n Unset
before_kind f other = f

-- a statement: refused, or with its effect
abbrev pub step_of_statement : Classes → TypedProgram → ProgramState → RunningBody → List Frame → ℕ → TypedStatement → Next
step_of_statement h program s f below n statement =
    unless (statement_refusal h (sight s f) (wanted_result f) statement.kind) statement.line (effect h program (with_frames s (InBody f ∷ below)) f below n statement)

-- the next statement of a body, or its end
abbrev pub next_in_body : Classes → TypedProgram → ProgramState → RunningBody → List Frame → TypedBody → Option TypedStatement → Next
next_in_body h program s f below body None = body_closed h program s f.owner body.close_line below
next_in_body h program s f below body (Some statement) = step_of_statement h program s (before_kind f statement.kind) below f.next statement

-- the step of a body that is there
abbrev pub body_step : Classes → TypedProgram → ProgramState → RunningBody → List Frame → Option TypedBody → Next
body_step h program s f below own = option_map_or (λ body. next_in_body h program s f below body (slice_get body.statements f.next)) own Wrong

-- the step of the innermost frame
abbrev pub frame_step : Classes → TypedProgram → ProgramState → List Frame → Next
frame_step h program s [] = Wrong
frame_step h program s (InBody f ∷ below) = body_step h program s f below (owned_body program f.owner)
frame_step h program s (InPlan f ∷ below) = event_step program s f below f.events

-- the step from a state
abbrev pub step : Classes → TypedProgram → ProgramState → Next
step h program s = frame_step h program s s.frames
