-- The end of a body of a constructor or of a destructor: its block stands in the code, and agrees with the move.
use Rattle.std.proofs.Common.{◌≡◌, ⊎_elim, ℕ, ◌≤◌, true, Some, None, List, [], ◌∷◌, ◌++◌, length, ap, subst, sym, ◌∙◌, arith}
use Rattle.std.specs.Prelude.{nat_eq, if◌then◌else◌, slice_get}
use Rattle.std.proofs.lemmas.Bool.{eq-eqb}
use Rattle.std.proofs.lemmas.List.{append_assoc}
use Rattle.std.proofs.lemmas.Option.{slice_get_cases}
use Rattle.cxx_hierarchy.specs.declared.records.ClassId.{ClassId}
use Rattle.cxx_program.specs.declared.program.Owner.TheVariants.{Constructor, Destructor}
use Rattle.cxx_program.specs.declared.program.TypedBody.{TypedBody}
use Rattle.path_model.specs.States.{ProgramState, RunningBody as PathBody, Planned, Frame as PathFrame, InBody, InPlan, owned_body, with_frames}
use Rattle.path_model.specs.Effects.{Goes}
use Rattle.path_model.specs.Steps.{event_step}
use Rattle.path_model.specs.TypedStates.{IsTypedState, AreTypedFrames}
use Rattle.path_model.specs.Runs.{Move, Moves}
use Rattle.byte_code.specs.declared.code.Block.{Block}
use Rattle.byte_machine.specs.Running.{Running}
use Rattle.byte_machine.specs.Leads.{LeadsBlock}
use Rattle.code_blocks.specs.Blocks.{AtStatement, event_block, closing_ops}
use Rattle.code_blocks.specs.Items.{Item, Does}
use Rattle.code_blocks.specs.Lowered.{IsEnd, statement_block, body_block}
use Rattle.code_blocks.specs.declared.items.Kind.TheVariants.{AtBody, AtDone}
use Rattle.code_ops.specs.Setups.{Routine, PlanCode, body_of_routine}
use Rattle.code_ops.specs.declared.routines.Course.{Course}
use Rattle.code_ops.specs.declared.routines.Course.TheVariants.{Constructs, Destroys}
use Rattle.agree_parts.proofs.Inside.{known_class}
use Rattle.agree_relation.specs.Worlds.{World, IsProgramWorld, world_classes, fixed}
use Rattle.agree_relation.specs.Words.{heap_of}
use Rattle.agree_relation.specs.Agrees.{Agrees}
use Rattle.agree_relation.proofs.Objects.{objects_laid}
use Rattle.agree_statements.specs.Statements.{BeginsBlock}
use Rattle.agree_statements.proofs.Moves.{move_in}
use Rattle.agree_events.specs.Turns.{InPlanBody}
use Rattle.agree_events.proofs.Bodies.{constructor_left}
use Rattle.agree_events.proofs.BodyEnds.{in_plan_body, constructor_closes, destructor_closes}
use Rattle.agree_runs.proofs.Bodies.{behind_last}
use Rattle.agree_plans.specs.Turns.{IsUnderWay, HasBlock}
use Rattle.agree_plans.proofs.EventTurns.{event_leads}

-- a body of a plan is on top of a state, at its end
module _ (w : World) (world : IsProgramWorld w) (s : ProgramState) (fb : PathBody) (p : Planned) (path : List PathFrame) (body : TypedBody) (frames_are : s.frames ≡ InBody fb ∷ InPlan p ∷ path) (there : owned_body w.setup.program fb.owner ≡ Some body) (over : slice_get body.statements fb.next ≡ None) (typed : IsTypedState (world_classes w) w.setup.program s)
    (b : Running) (begins : BeginsBlock w world.lowered.at s b) where
  typed_frames : AreTypedFrames (world_classes w) w.setup.program s.objects.classes (InBody fb ∷ InPlan p ∷ path)
  typed_frames = subst (λ (fs : List PathFrame). AreTypedFrames (world_classes w) w.setup.program s.objects.classes fs) frames_are typed.frames

  -- it is behind all statements
  at_end : nat_eq fb.next (length body.statements) ≡ true
  at_end =
      eq-eqb fb.next (length body.statements) (behind_last (world_classes w) w.setup.program s fb (InPlan p ∷ path) body frames_are there over typed)

  module _ (inside : InPlanBody w world.lowered.at s fb p path b begins) where
    open inside use {f, left}

    abbrev routine : Routine
    routine = PlanCode f.course f.form f.class

    its_body : body_of_routine w.setup routine ≡ Some body
    its_body = ap (owned_body w.setup.program) (sym inside.owner) ∙ there

    abbrev block : Block
    block = record { ops = closing_ops w.setup world.lowered.at routine; line = body.close_line }

    block_there : slice_get w.code.blocks begins.top.block ≡ Some block
    block_there =
        let known = known_class (world_classes w) w.setup.rows (heap_of s.objects.classes b.memory.regions) f.part f.class (objects_laid w s.objects b.memory.regions b.objects b.heap world begins.stands.columns.objects) inside.planned.going.0.made in
        let is : body_block w.setup world.lowered.at routine fb.next (body_of_routine w.setup routine) ≡ Some block =
        ap (body_block w.setup world.lowered.at routine fb.next) its_body ∙ (ap (statement_block w.setup world.lowered.at routine body fb.next) over ∙ ap (λ t. if t then Some block else None) at_end) in
        ap (slice_get w.code.blocks) inside.block ∙ world.lowered.each (AtStatement routine fb.next) block (known, inside.planned.going.0.course) is

    -- the block at its end
    closes : (m : Move) → LeadsBlock (fixed w) (closing_ops w.setup world.lowered.at routine) b (Agrees w world.lowered.at m) → HasBlock w world.lowered.at b begins.top.block body.close_line m
    closes m leads = record { ops = closing_ops w.setup world.lowered.at routine; there = block_there; leads = leads }

    -- what is left behind a constructor's body
    done_ends : f.course ≡ Constructs → IsEnd w.setup f.course f.form f.class (Does AtDone ∷ [])
    done_ends is =
        let ends = inside.planned.going.0.ends in
        let last = constructor_left w.setup f.form f.class left (subst (λ (course : Course). IsEnd w.setup course f.form f.class (Does AtBody ∷ left)) is ends) in
        record {
          before = ends.before ++ Does AtBody ∷ [];
          is = append_assoc ends.before (Does AtBody ∷ []) (Does AtDone ∷ []) ∙ (ap (λ (xs : List Item). ends.before ++ Does AtBody ∷ xs) (sym last) ∙ ends.is);
        }

  -- that of a constructor does the last event of its part
  pub constructor_turn : (c : ClassId) → fb.owner ≡ Constructor c → IsUnderWay w s p path → HasBlock w world.lowered.at b begins.top.block body.close_line (move_in w s)
  constructor_turn c owner a =
      let inside = in_plan_body w world.lowered.at world s fb p path frames_are Constructs c owner b begins in
      let f = inside.f in
      let step : event_step w.setup.program s p path p.events ≡ Goes a.new a.told = a.steps in
      let last = constructor_closes w world.lowered.at world s fb p path frames_are c owner b begins inside a.event a.rest a.is a.fits a.open_there a.new a.told step in
      let leads = event_leads w world s p path a typed_frames.2 f AtDone [] inside.others inside.lower b (done_ends inside last.0) last.1 in
      closes inside (move_in w s)
      (subst (λ (course : Course). LeadsBlock (fixed w) (closing_ops w.setup world.lowered.at (PlanCode course f.form f.class)) b (Agrees w world.lowered.at (move_in w s))) (sym last.0)
      (subst (λ (course : Course). LeadsBlock (fixed w) (event_block w.setup world.lowered.at course f.form f.class AtDone []) b (Agrees w world.lowered.at (move_in w s))) last.0 leads))

  -- behind that of a destructor its plan goes on
  pub destructor_turn : (c : ClassId) → fb.owner ≡ Destructor c → HasBlock w world.lowered.at b begins.top.block body.close_line (Moves (with_frames s (InPlan p ∷ path)) [])
  destructor_turn c owner =
      let inside = in_plan_body w world.lowered.at world s fb p path frames_are Destroys c owner b begins in
      closes inside (Moves (with_frames s (InPlan p ∷ path)) []) (destructor_closes w world.lowered.at world s fb p path frames_are c owner b begins inside)
