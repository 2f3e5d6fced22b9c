-- When the block of a plan, or of the end of a body in a plan, agrees with the move.
use Rattle.std.specs.Prelude.{◌≡◌, Some, None, List, [], ◌∷◌, slice_get}
use Rattle.cxx_hierarchy.specs.declared.records.ClassId.{ClassId}
use Rattle.cxx_program.specs.declared.program.Owner.TheVariants.{Constructor, Destructor}
use Rattle.cxx_program.specs.declared.program.TypedBody.{TypedBody}
use Rattle.path_model.specs.Runs.{Moves, move}
use Rattle.path_model.specs.States.{ProgramState, RunningBody as PathRunning, Planned, Frame as PathFrame, InBody, InPlan, owned_body, with_frames}
use Rattle.path_model.specs.TypedStates.{IsTypedState}
use Rattle.byte_machine.specs.Running.{Running}
use Rattle.agree_relation.specs.Worlds.{World, IsProgramWorld, world_classes, places_in}
use Rattle.agree_statements.specs.Statements.{BeginsBlock}
use Rattle.agree_plans.specs.Turns.{IsUnderWay, HasBlock}

-- where a plan is on top, the block at which the frame on top begins is that of the plan's next event
abbrev pub PlansAgree : (w : World) → IsProgramWorld w → Type 0
PlansAgree w world = (s : ProgramState) (p : Planned) (path : List PathFrame) → s.frames ≡ InPlan p ∷ path →
    (b : Running) (begins : BeginsBlock w world.lowered.at s b) → IsUnderWay w s p path →
    HasBlock w world.lowered.at b begins.top.block 0 (move (world_classes w) (places_in w).size w.setup.program s)

-- where the body of a constructor is at its end, the block there does the event that the part is done
abbrev pub ConstructorEndsAgree : (w : World) → IsProgramWorld w → Type 0
ConstructorEndsAgree w world = (s : ProgramState) (f : PathRunning) (p : Planned) (path : List PathFrame) (body : TypedBody) →
    s.frames ≡ InBody f ∷ InPlan p ∷ path → owned_body w.setup.program f.owner ≡ Some body → slice_get body.statements f.next ≡ None →
    IsTypedState (world_classes w) w.setup.program s → (b : Running) (begins : BeginsBlock w world.lowered.at s b) (c : ClassId) → f.owner ≡ Constructor c →
    IsUnderWay w s p path → HasBlock w world.lowered.at b begins.top.block body.close_line (move (world_classes w) (places_in w).size w.setup.program s)

-- where the body of a destructor is at its end, the block there opens the parts that follow
abbrev pub DestructorEndsAgree : (w : World) → IsProgramWorld w → Type 0
DestructorEndsAgree w world = (s : ProgramState) (f : PathRunning) (p : Planned) (path : List PathFrame) (body : TypedBody) →
    s.frames ≡ InBody f ∷ InPlan p ∷ path → owned_body w.setup.program f.owner ≡ Some body → slice_get body.statements f.next ≡ None →
    IsTypedState (world_classes w) w.setup.program s → (b : Running) (begins : BeginsBlock w world.lowered.at s b) (c : ClassId) → f.owner ≡ Destructor c →
    HasBlock w world.lowered.at b begins.top.block body.close_line (Moves (with_frames s (InPlan p ∷ path)) [])
