-- In each state that a run reaches, the block that is next agrees with the move.
use Rattle.std.proofs.Common.{◌≡◌, ℕ, true, None, List, [], ◌∷◌, refl, sym, ap, subst, ◌∙◌}
use Rattle.cxx_program.specs.declared.program.TypedBody.{TypedBody}
use Rattle.cxx_program.specs.declared.statement.TypedStatement.{TypedStatement}
use Rattle.path_model.specs.States.{ProgramState, RunningBody as Body, Planned, Frame as PathFrame, InBody, InPlan}
use Rattle.path_model.specs.Runs.{state_at}
use Rattle.byte_machine.specs.Frames.{MachineFrame}
use Rattle.byte_machine.specs.Turn.{ByteState as Bytes, at_block}
use Rattle.byte_machine.specs.Leads.{LeadsBlock}
use Rattle.code_blocks.specs.Blocks.{closing_ops}
use Rattle.code_ops.specs.Setups.{Routine, MainCode, FunctionCode, PlanCode, routine_owner}
use Rattle.code_ops.specs.declared.routines.Course.TheVariants.{Constructs, Destroys, Deletes}
use Rattle.agree_relation.specs.Worlds.{World, IsProgramWorld, world_classes, places_in, fixed}
use Rattle.agree_relation.specs.Agrees.{Agrees}
use Rattle.agree_relation.specs.Frames.{StandOver}
use Rattle.agree_relation.specs.Goings.{Going}
use Rattle.agree_relation.specs.Stands.{StandsForState}
use Rattle.agree_relation.specs.Words.{heap_of}
use Rattle.agree_parts.specs.Heaps.{Heap}
use Rattle.agree_statements.specs.Statements.{IsNext}
use Rattle.agree_statements.proofs.Moves.{move_in}
use Rattle.agree_statements.proofs.After.{HasTop}
use Rattle.agree_statements.proofs.Tops.{body_on_top}
use Rattle.agree_runs.specs.NextSteps.{IsAhead, a_statement, an_end, an_event, IsAtEnd}
use Rattle.agree_runs.proofs.Ahead.{something_ahead}
use Rattle.agree_calls.proofs.Closings.{AtEnd, function_closes, main_closes}
use Rattle.agree_calls.proofs.Founds.{found_moves}
use Rattle.agree_plans.specs.Turns.{HasBlock}
use Rattle.agree_plans.proofs.Reached.{plan_turn, constructor_closes, destructor_closes}
use Rattle.abi_refine.specs.Blocks.{BlockLeads}
use Rattle.abi_refine.proofs.Statements.{begins_at, scene, statement_block_leads}
use Rattle.abi_refine.proofs.StatementKinds.{kind_does}
use Rattle.abi_refine.proofs.Ends.{begins, end_block_leads, r, top}

module _ (w : World) (world : IsProgramWorld w) (n : ℕ) where
  abbrev s : ProgramState
  s = state_at (world_classes w) (places_in w).size w.setup.program n

  module _ (b : Bytes) (stands : StandsForState w world.lowered.at s b) (first : MachineFrame) (rest : List MachineFrame) (frames : b.frames ≡ first ∷ rest) where
    -- a block that stands in the code at the number of the frame on top
    from_block : (line : ℕ) → HasBlock w world.lowered.at (at_block b first rest [] line) first.block line (move_in w s) → BlockLeads w world.lowered.at b (move_in w s)
    from_block line has = record { top = first; below = rest; frames = frames; block = record { ops = has.ops; line = line }; there = has.there; leads = has.leads }

    statement_leads : (f : Body) (below : List PathFrame) (body : TypedBody) (statement : TypedStatement) → IsNext w s f below body statement → BlockLeads w world.lowered.at b (move_in w s)
    statement_leads f below body statement next =
        let moves = found_moves (world_classes w) (places_in w).size w.setup.program n f below next.frames in
        statement_block_leads w world s f below body statement next b first rest frames stands
        (kind_does statement.kind statement.line statement.next (scene w world s f below body statement next b first rest frames stands) refl moves)

    -- the end of a body, by the routine whose it is
    module _ (f : Body) (below : List PathFrame) (body : TypedBody) (ended : IsAtEnd w s f below body) where
      abbrev on : HasTop w world.lowered.at s f below (r w world s f below body ended b first rest frames stands)
      on = top w world s f below body ended b first rest frames stands

      abbrev at_end : AtEnd
      at_end = record {
        w = w;
        at = world.lowered.at;
        s = s;
        f = f;
        below = below;
        body = body;
        b = r w world s f below body ended b first rest frames stands;
        world = world;
        frames = ended.frames;
        there = ended.there;
        ended = ended.over;
        typed = ended.typed;
        begins = begins w world s f below body ended b first rest frames stands;
        line = refl;
      }

      owned : (routine : Routine) → on.on.routine ≡ routine → f.owner ≡ routine_owner routine
      owned routine is = sym on.on.owner ∙ ap routine_owner is

      by_closing : (routine : Routine) → on.on.routine ≡ routine → LeadsBlock (fixed w) (closing_ops w.setup world.lowered.at routine) at_end.b (Agrees w world.lowered.at (move_in w s)) → BlockLeads w world.lowered.at b (move_in w s)
      by_closing routine is leads = end_block_leads w world s f below body ended b first rest frames stands (subst (λ (x : Routine). LeadsBlock (fixed w) (closing_ops w.setup world.lowered.at x) at_end.b (Agrees w world.lowered.at (move_in w s))) (sym is) leads)

      by_routine : (routine : Routine) → on.on.routine ≡ routine → BlockLeads w world.lowered.at b (move_in w s)
      by_routine MainCode is = by_closing MainCode is (main_closes at_end (owned MainCode is))
      by_routine (FunctionCode g) is = by_closing (FunctionCode g) is (function_closes at_end g (owned (FunctionCode g) is))
      by_routine (PlanCode Constructs form c) is = from_block body.close_line (constructor_closes w world n at_end.b at_end.begins f below body ended c (owned (PlanCode Constructs form c) is))
      by_routine (PlanCode Destroys form c) is = from_block body.close_line (destructor_closes w world n at_end.b at_end.begins f below body ended c (owned (PlanCode Destroys form c) is))
      by_routine (PlanCode Deletes form c) is = from_block body.close_line (destructor_closes w world n at_end.b at_end.begins f below body ended c (owned (PlanCode Deletes form c) is))

      end_leads : BlockLeads w world.lowered.at b (move_in w s)
      end_leads = by_routine on.on.routine refl

    by_ahead : IsAhead w (places_in w).size s → BlockLeads w world.lowered.at b (move_in w s)
    by_ahead (a_statement f below body statement next) = statement_leads f below body statement next
    by_ahead (an_end f below body ended) = end_leads f below body ended
    by_ahead (an_event p path top_is happens) = from_block 0 (plan_turn w world n (at_block b first rest [] 0) (begins_at w world s b first rest 0 frames stands) p path top_is)

  -- there is a frame on top

  record HasFirst (bs : List MachineFrame) : Type 0 where
    first : MachineFrame
    rest : List MachineFrame
    is : bs ≡ first ∷ rest

  body_there : (g : Heap) (f : Body) (below : List PathFrame) (gs : List Going) (bs : List MachineFrame) → StandOver w world.lowered.at g None (InBody f ∷ below) gs bs → HasFirst bs
  body_there g f below gs bs over = let on = body_on_top w world.lowered.at g f below gs bs over in record { first = on.frame; rest = on.rest; is = on.is }

  plan_there : (g : Heap) (p : Planned) (path : List PathFrame) (gs : List Going) (bs : List MachineFrame) → StandOver w world.lowered.at g None (InPlan p ∷ path) gs bs → HasFirst bs
  plan_there g p path gs [] over = absurd over.1
  plan_there g p path gs (b ∷ bs) over = record { first = b; rest = bs; is = refl }

  first_there : (b : Bytes) → StandsForState w world.lowered.at s b → IsAhead w (places_in w).size s → HasFirst b.frames
  first_there b stands ahead =
      let a = stands.stands.frames in
      by ahead (λ frames is. subst (λ (fs : List PathFrame). StandOver w world.lowered.at (heap_of s.objects.classes b.memory.regions) None fs a.goings b.frames) is a.frames)
    where
      by : IsAhead w (places_in w).size s → ((frames : List PathFrame) → s.frames ≡ frames → StandOver w world.lowered.at (heap_of s.objects.classes b.memory.regions) None frames stands.stands.frames.goings b.frames) → HasFirst b.frames
      by (a_statement f below body statement next) over = body_there (heap_of s.objects.classes b.memory.regions) f below stands.stands.frames.goings b.frames (over (InBody f ∷ below) next.frames)
      by (an_end f below body ended) over = body_there (heap_of s.objects.classes b.memory.regions) f below stands.stands.frames.goings b.frames (over (InBody f ∷ below) ended.frames)
      by (an_event p path top_is happens) over = plan_there (heap_of s.objects.classes b.memory.regions) p path stands.stands.frames.goings b.frames (over (InPlan p ∷ path) top_is)

  pub block_leads : (b : Bytes) → StandsForState w world.lowered.at s b → BlockLeads w world.lowered.at b (move_in w s)
  block_leads b stands =
      let ahead = something_ahead w world (places_in w).size n in
      let top_frame = first_there b stands ahead in
      by_ahead b stands top_frame.first top_frame.rest top_frame.is ahead
