-- The block at the end of a body of a function or of `main` stands in the code, and agrees with the move.
use Rattle.std.proofs.Common.{◌≡◌, ◌+◌, arith, true, Some, None, List, [], ◌∷◌, length, ap, ◌∙◌}
use Rattle.std.specs.Prelude.{slice_get, nat_eq, if◌then◌else◌}
use Rattle.std.proofs.lemmas.Bool.{eq-eqb}
use Rattle.cxx_program.specs.declared.program.TypedBody.{TypedBody}
use Rattle.path_model.specs.States.{ProgramState, RunningBody as Body, Frame as PathFrame, owned_body}
use Rattle.byte_code.specs.declared.code.Block.{Block}
use Rattle.byte_machine.specs.Frames.{MachineFrame}
use Rattle.byte_machine.specs.Running.{Running}
use Rattle.byte_machine.specs.Leads.{LeadsBlock}
use Rattle.byte_machine.specs.Turn.{ByteState as Bytes, at_block}
use Rattle.code_blocks.specs.Blocks.{AtStatement, closing_ops}
use Rattle.code_blocks.specs.Lowered.{body_block, statement_block}
use Rattle.code_ops.specs.Routines.{IsRoutine}
use Rattle.code_ops.specs.Setups.{Routine, body_of_routine}
use Rattle.agree_parts.proofs.Inside.{known_class}
use Rattle.agree_relation.specs.Worlds.{World, IsProgramWorld, world_classes, fixed}
use Rattle.agree_relation.specs.Agrees.{Agrees}
use Rattle.agree_relation.specs.Stands.{StandsForState}
use Rattle.agree_relation.specs.Words.{heap_of}
use Rattle.agree_relation.proofs.Objects.{objects_laid}
use Rattle.agree_runs.proofs.Bodies.{behind_last}
use Rattle.agree_statements.specs.Statements.{BeginsBlock}
use Rattle.agree_statements.proofs.After.{HasTop, top_of}
use Rattle.agree_statements.proofs.Moves.{move_in}
use Rattle.agree_runs.specs.NextSteps.{IsAtEnd}
use Rattle.abi_refine.specs.Blocks.{BlockLeads}
use Rattle.abi_refine.proofs.Statements.{begins_at}

module _ (w : World) (world : IsProgramWorld w) (s : ProgramState) (f : Body) (below : List PathFrame) (body : TypedBody) (ended : IsAtEnd w s f below body) (b : Bytes) (first : MachineFrame) (rest : List MachineFrame) (frames : b.frames ≡ first ∷ rest) (stands : StandsForState w world.lowered.at s b) where
  abbrev pub r : Running
  r = at_block b first rest [] body.close_line

  abbrev pub begins : BeginsBlock w world.lowered.at s r
  begins = begins_at w world s b first rest body.close_line frames stands

  pub top : HasTop w world.lowered.at s f below r
  top = top_of w world.lowered.at s f below r ended.frames begins

  abbrev its : Routine → Block
  its routine = record { ops = closing_ops w.setup world.lowered.at routine; line = body.close_line }

  its_body : body_of_routine w.setup top.on.routine ≡ Some body
  its_body = ap (owned_body w.setup.program) top.on.owner ∙ ended.there

  is_routine : IsRoutine w.setup top.on.routine
  is_routine =
      let laid = objects_laid w s.objects r.memory.regions r.objects r.heap world begins.stands.columns.objects in
      top.on.known s.objects.classes body (λ p c made. known_class (world_classes w) w.setup.rows (heap_of s.objects.classes r.memory.regions) p c laid made) top.planned.going ended.there

  -- it is behind all statements
  at_end : nat_eq f.next (length body.statements) ≡ true
  at_end = eq-eqb f.next (length body.statements) (behind_last (world_classes w) w.setup.program s f below body ended.frames ended.there ended.over ended.typed)

  block_is : body_block w.setup world.lowered.at top.on.routine f.next (body_of_routine w.setup top.on.routine) ≡ Some (its top.on.routine)
  block_is =
      ap (body_block w.setup world.lowered.at top.on.routine f.next) its_body
      ∙ (ap (statement_block w.setup world.lowered.at top.on.routine body f.next) ended.over ∙ ap (λ t. if t then Some (its top.on.routine) else None) at_end)

  first_is : first.block ≡ world.lowered.at (AtStatement top.on.routine f.next)
  first_is =
      let there : top.begins.top ∷ rest ≡ top.on.frame ∷ top.on.rest = top.on.is in
      let same : top.begins.top ≡ top.on.frame = cc (there) in
      let stepped : first.block + 1 ≡ top.begins.top.block + 1 = ap (λ (x : MachineFrame). x.block) top.begins.stepped in
      let numbers : first.block ≡ top.begins.top.block = omega (arith, stepped) in
      numbers ∙ (ap (λ (x : MachineFrame). x.block) same ∙ top.on.body.block)

  -- where the closing ops agree with the move, so does the block that is next
  pub end_block_leads : LeadsBlock (fixed w) (closing_ops w.setup world.lowered.at top.on.routine) r (Agrees w world.lowered.at (move_in w s)) → BlockLeads w world.lowered.at b (move_in w s)
  end_block_leads leads = record {
    top = first;
    below = rest;
    frames = frames;
    block = its top.on.routine;
    there = ap (slice_get w.code.blocks) first_is ∙ world.lowered.each (AtStatement top.on.routine f.next) (its top.on.routine) is_routine block_is;
    leads = leads;
  }
