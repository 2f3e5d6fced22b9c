-- The body that waits for a heap object, and its frame.
use Rattle.std.proofs.Common.{◌≡◌, ℕ, ◌+◌, ◌<◌, ◌≤◌, refl, Option, Some, None, List, [], ◌∷◌, length, ap, subst, sym, ◌∙◌, arith}
use Rattle.cxx_program.specs.declared.program.TypedBody.{TypedBody}
use Rattle.path_model.specs.States.{ProgramState, RunningBody as Body, Planned, Frame as PathFrame, InBody, InPlan, owned_body}
use Rattle.path_model.specs.TypedStates.{IsTypedRunning, FitsMadeObject, AreTypedFrames}
use Rattle.path_model.specs.Values.{Objects}
use Rattle.byte_machine.specs.Frames.{MachineFrame}
use Rattle.byte_memory.specs.Store.{Store}
use Rattle.byte_machine.specs.declared.heap.Opened.{Opened}
use Rattle.byte_shadow.specs.Shadows.{Notes}
use Rattle.code_blocks.specs.Lowered.{registers_for}
use Rattle.code_ops.specs.Arguments.{block_in, free}
use Rattle.code_ops.specs.Setups.{body_of_routine}
use Rattle.agree_parts.proofs.Inside.{known_class}
use Rattle.agree_relation.specs.Worlds.{World, IsProgramWorld, world_classes}
use Rattle.agree_relation.specs.Words.{heap_of}
use Rattle.agree_relation.specs.Columns.{ColumnsStand}
use Rattle.agree_relation.specs.Goings.{Going, AreGoing}
use Rattle.agree_relation.specs.Frames.{PlaceNumbers, HasVariables, StandOver}
use Rattle.agree_relation.proofs.Objects.{objects_laid}
use Rattle.agree_statements.proofs.Scenes.{values_count}
use Rattle.agree_statements.proofs.Tops.{body_on_top}

-- it is one of the program, and typed
pub record Waits (w : World) (s : ProgramState) (p : Planned) (path : List PathFrame) : Type 0 where
  pub caller : Body
  pub below : List PathFrame
  pub is : path ≡ InBody caller ∷ below
  pub body : TypedBody
  pub there : owned_body w.setup.program caller.owner ≡ Some body
  pub fits : FitsMadeObject (world_classes w) w.setup.program.globals s.objects.classes p.object p.target body
  pub running : IsTypedRunning (world_classes w) w.setup.program s.objects.classes caller body

pub waits_of : (w : World) (s : ProgramState) (p : Planned) (path : List PathFrame) → AreTypedFrames (world_classes w) w.setup.program s.objects.classes (InPlan p ∷ path) → Waits w s p path
waits_of w s p [] a = absurd a.0
waits_of w s p (InPlan q ∷ below) a = absurd a.0
waits_of w s p (InBody caller ∷ below) a =
    let running = a.1.0.1 in
    let both : Some a.1.0.0 ≡ Some a.0.0 = sym running.there ∙ a.0.1 in
    let same : a.1.0.0 ≡ a.0.0 = cc (both) in
    record {
      caller = caller;
      below = below;
      is = refl;
      body = a.0.0;
      there = a.0.1;
      fits = a.0.2;
      running = subst (λ (body : TypedBody). IsTypedRunning (world_classes w) w.setup.program s.objects.classes caller body) same running;
    }

pub locals_count : (w : World) (s : ProgramState) (p : Planned) (path : List PathFrame) (a : Waits w s p path) → length a.caller.locals ≡ length a.body.locals
locals_count w s p path a = values_count (world_classes w) s.objects.classes a.caller.locals a.body.locals a.running.locals

-- its frame has the registers that are free for the ops of a block
pub has_free : (w : World) (at : PlaceNumbers) (world : IsProgramWorld w) (x : Objects) (memory : Store) (objects : List Opened) (heap : ℕ) (notes : Notes) → ColumnsStand w x memory objects heap notes → (caller : Body) (below : List PathFrame) (body : TypedBody) (gs : List Going) (under : MachineFrame) (rest : List MachineFrame)
    → StandOver w at (heap_of x.classes memory.regions) None (InBody caller ∷ below) gs (under ∷ rest) → AreGoing w x.classes gs → owned_body w.setup.program caller.owner ≡ Some body → HasVariables w (heap_of x.classes memory.regions) caller under.registers
    → (n : ℕ) → n < 7 → free (block_in w.setup body) n < length under.registers
has_free w at world x memory objects heap notes columns caller below body gs under rest stand going there variables n few =
    let g = heap_of x.classes memory.regions in
    let on = body_on_top w at g caller below gs (under ∷ rest) stand in
    let laid = objects_laid w x memory.regions objects heap world columns.objects in
    let known = on.known x.classes body (λ p c made. known_class (world_classes w) w.setup.rows g p c laid made) going there in
    let same : body_of_routine w.setup on.routine ≡ Some body = ap (owned_body w.setup.program) on.owner ∙ there in
    let enough : length body.locals + 2 + 7 ≤ w.code.registers = subst (λ (o : Option TypedBody). registers_for o 0 ≤ w.code.registers) same (world.lowered.registers.routine on.routine known) in
    let size = variables.size in
    omega (arith, enough, size, few)
