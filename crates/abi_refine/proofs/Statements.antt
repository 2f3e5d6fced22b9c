-- The block of a statement stands in the code, and agrees with the move.
use Rattle.std.proofs.Common.{◌≡◌, ℕ, ◌+◌, arith, true, Some, None, List, [], ◌∷◌, refl, ap, subst, ◌∙◌}
use Rattle.std.specs.Prelude.{slice_get, if◌then◌else◌}
use Rattle.cxx_program.specs.declared.program.TypedBody.{TypedBody}
use Rattle.cxx_program.specs.declared.statement.TypedStatement.{TypedStatement}
use Rattle.path_model.specs.States.{ProgramState, RunningBody as Body, Frame as PathFrame, owned_body}
use Rattle.byte_code.specs.declared.code.Block.{Block}
use Rattle.byte_machine.specs.Frames.{MachineFrame}
use Rattle.byte_machine.specs.Running.{Running}
use Rattle.byte_machine.specs.Leads.{LeadsBlock}
use Rattle.byte_machine.specs.Turn.{ByteState as Bytes, at_block}
use Rattle.code_blocks.specs.Blocks.{AtStatement, statement_ops}
use Rattle.code_blocks.specs.Lowered.{body_block, statement_block}
use Rattle.code_ops.specs.Routines.{IsRoutine}
use Rattle.code_ops.specs.Setups.{body_of_routine}
use Rattle.agree_parts.proofs.Inside.{known_class}
use Rattle.agree_relation.specs.Worlds.{World, IsProgramWorld, world_classes, fixed}
use Rattle.agree_relation.specs.Agrees.{Agrees}
use Rattle.agree_relation.specs.Stands.{StateStands, StandsForState}
use Rattle.agree_relation.specs.Words.{heap_of}
use Rattle.agree_relation.proofs.Objects.{objects_laid}
use Rattle.agree_statements.specs.Statements.{IsNext, BeginsBlock}
use Rattle.agree_statements.proofs.Moves.{move_in}
use Rattle.agree_statements.proofs.Scenes.{Scene, top}
use Rattle.abi_refine.specs.Blocks.{BlockLeads}

-- the frame on top has stepped to the block behind
abbrev pub begins_at : (w : World) (world : IsProgramWorld w) (s : ProgramState) (b : Bytes) (top : MachineFrame) (rest : List MachineFrame) (line : ℕ) → b.frames ≡ top ∷ rest → StandsForState w world.lowered.at s b → BeginsBlock w world.lowered.at s (at_block b top rest [] line)
begins_at w world s b top rest line frames stands = record {
  top = top;
  stands = subst (λ (fs : List MachineFrame). StateStands w world.lowered.at s b.memory b.objects b.heap b.notes b.globals fs b.calls) frames stands.stands;
  stepped = refl;
  opened = refl;
  silent = refl;
}

module _ (w : World) (world : IsProgramWorld w) (s : ProgramState) (f : Body) (below : List PathFrame) (body : TypedBody) (statement : TypedStatement) (next : IsNext w s f below body statement) (b : Bytes) (first : MachineFrame) (rest : List MachineFrame) (frames : b.frames ≡ first ∷ rest) (stands : StandsForState w world.lowered.at s b) where
  abbrev r : Running
  r = at_block b first rest [] statement.line

  abbrev pub scene : Scene statement
  scene = record { w = w; at = world.lowered.at; s = s; f = f; below = below; body = body; b = r; world = world; next = next; begins = begins_at w world s b first rest statement.line frames stands; line = refl }

  abbrev its : Block
  its = record { ops = statement_ops w.setup world.lowered.at (top scene).on.routine body f.next statement; line = statement.line }

  its_body : body_of_routine w.setup (top scene).on.routine ≡ Some body
  its_body = ap (owned_body w.setup.program) (top scene).on.owner ∙ next.there

  is_routine : IsRoutine w.setup (top scene).on.routine
  is_routine =
      let laid = objects_laid w s.objects r.memory.regions r.objects r.heap world (scene.begins).stands.columns.objects in
      (top scene).on.known s.objects.classes body (λ p c made. known_class (world_classes w) w.setup.rows (heap_of s.objects.classes r.memory.regions) p c laid made) (top scene).planned.going next.there

  block_is : body_block w.setup world.lowered.at (top scene).on.routine f.next (body_of_routine w.setup (top scene).on.routine) ≡ Some its
  block_is =
      ap (body_block w.setup world.lowered.at (top scene).on.routine f.next) its_body
      ∙ (ap (statement_block w.setup world.lowered.at (top scene).on.routine body f.next) next.here)

  first_is : first.block ≡ world.lowered.at (AtStatement (top scene).on.routine f.next)
  first_is =
      let there : (top scene).begins.top ∷ rest ≡ (top scene).on.frame ∷ (top scene).on.rest = (top scene).on.is in
      let same : (top scene).begins.top ≡ (top scene).on.frame = cc (there) in
      let stepped : first.block + 1 ≡ (top scene).begins.top.block + 1 = ap (λ (x : MachineFrame). x.block) (top scene).begins.stepped in
      let numbers : first.block ≡ (top scene).begins.top.block = omega (arith, stepped) in
      numbers ∙ (ap (λ (x : MachineFrame). x.block) same ∙ (top scene).on.body.block)

  -- where the ops of the statement agree with the move, so does the block that is next
  pub statement_block_leads : LeadsBlock (fixed w) (statement_ops w.setup world.lowered.at (top scene).on.routine body f.next statement) r (Agrees w world.lowered.at (move_in w s)) → BlockLeads w world.lowered.at b (move_in w s)
  statement_block_leads leads = record {
    top = first;
    below = rest;
    frames = frames;
    block = its;
    there = ap (slice_get w.code.blocks) first_is ∙ world.lowered.each (AtStatement (top scene).on.routine f.next) its is_routine block_is;
    leads = leads;
  }
