-- A statement that is next, the byte state in which its block begins, and the kinds of statement that are plain.
use Rattle.std.specs.Prelude.{◌≡◌, Bool, true, false, Option, Some, None, List, [], ◌∷◌, slice_get}
use Rattle.cxx_hierarchy.specs.declared.records.ClassId.{ClassId}
use Rattle.cxx_hierarchy.specs.Classes.{Classes}
use Rattle.cxx_subobject.specs.declared.Root.TheVariants.{Whole}
use Rattle.cxx_subobject.specs.declared.Subobject.{Subobject}
use Rattle.cxx_subobject.specs.Subobjects.{IsSubobject}
use Rattle.cxx_subobject.specs.Locations.{ObjectPart}
use Rattle.path_plan.specs.Places.{part}
use Rattle.path_plan.specs.Phases.{Raw}
use Rattle.path_model.specs.Values.{Objects}
use Rattle.path_model.specs.Uses.{view_of, derived_of}
use Rattle.path_model.specs.Rules.{is_unready}
use Rattle.cxx_program.specs.declared.program.TypedBody.{TypedBody}
use Rattle.cxx_program.specs.declared.statement.Converted.{Converted}
use Rattle.cxx_program.specs.declared.statement.TypedKind.{TypedKind}
use Rattle.cxx_program.specs.declared.statement.TypedKind.TheVariants.{Declare, Assign, Copy, Call, Delete, Return}
use Rattle.cxx_program.specs.declared.statement.TypedRight.{TypedRight}
use Rattle.cxx_program.specs.declared.statement.TypedRight.TheVariants.{Call as CallRight, New}
use Rattle.cxx_program.specs.declared.statement.TypedStatement.{TypedStatement}
use Rattle.path_model.specs.States.{ProgramState, RunningBody as Body, Frame as PathFrame, InBody, owned_body}
use Rattle.path_model.specs.TypedStates.{IsPartMade, IsTypedState}
use Rattle.path_model.specs.Typed.{AllSettled}
use Rattle.byte_machine.specs.Frames.{MachineFrame}
use Rattle.byte_machine.specs.Running.{Running}
use Rattle.byte_machine.specs.Turn.{stepping}
use Rattle.agree_relation.specs.Worlds.{World, world_classes}
use Rattle.agree_relation.specs.Frames.{PlaceNumbers}
use Rattle.agree_relation.specs.Stands.{StateStands}

-- what is ready lies in a complete object that has a view, and what it is a base of, by a path through no virtual base, has begun
pub record AreSeen (h : Classes) (s : Objects) : Type 0 where
  pub view : (p : ObjectPart) (c : ClassId) → IsPartMade h s.classes p c → is_unready s p ≡ false → (x : Subobject) × (view_of h s p ≡ Some x)
  pub around : (p : ObjectPart) (c target : ClassId) (i t : Subobject) → IsPartMade h s.classes p c → is_unready s p ≡ false → IsSubobject h target i → i.root ≡ Whole → derived_of h s target i p ≡ Some t → s.phases.phase (part p.object p.owner t) ≡ Raw → ⊥

-- a body is on top, and the statement is its next one
pub record IsNext (w : World) (s : ProgramState) (f : Body) (below : List PathFrame) (body : TypedBody) (statement : TypedStatement) : Type 0 where
  pub frames : s.frames ≡ InBody f ∷ below
  pub there : owned_body w.setup.program f.owner ≡ Some body
  pub here : slice_get body.statements f.next ≡ Some statement
  pub typed : IsTypedState (world_classes w) w.setup.program s
  pub settled : AllSettled (world_classes w) s.objects
  pub seen : AreSeen (world_classes w) s.objects

-- a block begins where a byte state stands for the state, and nothing was told; the frame on top has stepped to the block behind
pub record BeginsBlock (w : World) (at : PlaceNumbers) (s : ProgramState) (b : Running) : Type 0 where
  pub top : MachineFrame
  pub stands : StateStands w at s b.memory b.objects b.heap b.notes b.globals (top ∷ b.below) b.calls
  pub stepped : b.top ≡ stepping top
  pub opened : b.opened ≡ []
  pub silent : b.outs ≡ []

-- a right side that is evaluated within its block: no call and no `new`
abbrev pub is_plain_right : TypedRight → Bool
is_plain_right (CallRight call) = false
is_plain_right (New d) = false
is_plain_right other = true

abbrev pub is_plain_value : Option Converted → Bool
is_plain_value None = true
is_plain_value (Some x) = is_plain_right x.right

-- a statement whose block alone is its step: it opens and closes no frame, and copies no part
abbrev pub is_plain_statement : TypedKind → Bool
is_plain_statement (Declare n x) = is_plain_value x
is_plain_statement (Assign variable x) = is_plain_right x.right
is_plain_statement (Copy to from c) = false
is_plain_statement (Call call) = false
is_plain_statement (Delete x c) = false
is_plain_statement (Return x) = false
is_plain_statement other = true
