-- A turn of a plan on top: the block of its next event stands in the code, and agrees with the move.
use Rattle.std.proofs.Common.{◌≡◌, ◌<◌, true, false, List, ◌∷◌, length, refl, ap, subst, sym, ◌∙◌}
use Rattle.std.specs.Prelude.{not, slice_get}
use Rattle.cxx_program.specs.declared.program.Owner.TheVariants.{Constructor}
use Rattle.foundation.proofs.Truth.{is_false}
use Rattle.path_plan.specs.Phases.{PartEvent}
use Rattle.path_model.specs.Outs.{class_or_first}
use Rattle.path_model.specs.States.{ProgramState, Planned, Frame as PathFrame, InPlan, owned_body, is_body}
use Rattle.path_model.specs.Effects.{Goes, Wrong}
use Rattle.path_model.specs.Steps.{class_of_part, event_step}
use Rattle.path_model.specs.TypedStates.{AreTypedFrames}
use Rattle.path_model.specs.Runs.{Move}
use Rattle.byte_machine.specs.Running.{Running}
use Rattle.byte_machine.specs.Leads.{LeadsBlock}
use Rattle.code_blocks.specs.Blocks.{event_block}
use Rattle.code_blocks.specs.Items.{Item, Does, event_of}
use Rattle.code_blocks.specs.Lowered.{IsEnd, has_own_block}
use Rattle.code_blocks.specs.declared.items.Kind.{Kind}
use Rattle.code_blocks.specs.declared.items.Kind.TheVariants.{AtBegin, AtReady, AtInit, AtBody, AtDone, AtEnding, AtBases, AtEnd}
use Rattle.code_ops.specs.Setups.{PlanCode, body_of_routine}
use Rattle.code_ops.specs.declared.routines.Course.{Course}
use Rattle.code_ops.specs.declared.routines.Course.TheVariants.{Constructs}
use Rattle.agree_parts.proofs.Inside.{known_class}
use Rattle.agree_relation.specs.Worlds.{World, IsProgramWorld, world_classes, fixed}
use Rattle.agree_relation.specs.Words.{heap_of}
use Rattle.agree_relation.specs.Agrees.{Agrees}
use Rattle.agree_relation.specs.Goings.{Going, opened_goings, events_left}
use Rattle.agree_relation.proofs.Objects.{objects_laid}
use Rattle.agree_statements.specs.Statements.{BeginsBlock}
use Rattle.agree_statements.proofs.Moves.{move_in}
use Rattle.agree_events.specs.Turns.{IsPlanTurn, IsPlanBlock}
use Rattle.agree_events.proofs.PlanBlocks.{plan_block, block_there}
use Rattle.agree_plans.specs.Courses.{IsClosing}
use Rattle.agree_plans.specs.Turns.{IsUnderWay, HasBlock}
use Rattle.agree_plans.proofs.Last.{done_constructs}
use Rattle.agree_plans.proofs.Leaves.{leaves_stand}
use Rattle.agree_plans.proofs.Waiting.{waits_of}

-- the block of an event, with the return of the plan's last one
pub event_leads : (w : World) (world : IsProgramWorld w) (s : ProgramState) (p : Planned) (path : List PathFrame) (a : IsUnderWay w s p path) → AreTypedFrames (world_classes w) w.setup.program s.objects.classes (InPlan p ∷ path) → (f : Going) (k : Kind) (left : List Item) (others lower : List Going) (b : Running)
    → IsEnd w.setup f.course f.form f.class (Does k ∷ left) → IsPlanTurn w world.lowered.at s p path f k left others lower b a.new a.told → LeadsBlock (fixed w) (event_block w.setup world.lowered.at f.course f.form f.class k left) b (Agrees w world.lowered.at (move_in w s))
event_leads w world s p path a typed f k left others lower b ends plan =
    subst (λ (m : Move). LeadsBlock (fixed w) (event_block w.setup world.lowered.at f.course f.form f.class k left) b (Agrees w world.lowered.at m)) (sym a.moves)
    (plan.leads (λ registers memory notes outs happened. leaves_stand w world.lowered.at world s p path f k left others lower b a.new a.told
    (record { plan = plan; ends = ends; waits = waits_of w s p path typed; globals = a.typed.globals; silent = a.silent; settled = a.settled; seen = a.seen })
    registers memory notes outs happened))

module _ (w : World) (world : IsProgramWorld w) (s : ProgramState) (p : Planned) (path : List PathFrame) (frames_are : s.frames ≡ InPlan p ∷ path) (b : Running) (begins : BeginsBlock w world.lowered.at s b) (a : IsUnderWay w s p path) where
  step_is : event_step w.setup.program s p path (a.event ∷ a.rest) ≡ Goes a.new a.told
  step_is = ap (event_step w.setup.program s p path) (sym a.is) ∙ a.steps

  module _ (block : IsPlanBlock w world.lowered.at s p path b begins a.new a.told) where
    open block use {f, k, left}

    known : f.class.0 < length (world_classes w)
    known = known_class (world_classes w) w.setup.rows (heap_of s.objects.classes b.memory.regions) f.part f.class (objects_laid w s.objects b.memory.regions b.objects b.heap world begins.stands.columns.objects) block.turn.turn.planned.going.0.made

    event_is : a.event ≡ event_of k f.part
    event_is = let first : a.event ∷ a.rest ≡ event_of k f.part ∷ events_left w (opened_goings w f left block.others) = sym a.is ∙ block.events in cc (first)

    not_body : k ≡ AtBody → ⊥
    not_body is =
        let wrong : Wrong ≡ Goes a.new a.told = ap (λ (j : Kind). event_step w.setup.program s p path (event_of j f.part ∷ a.rest)) (sym is) ∙ (ap (λ (e : PartEvent). event_step w.setup.program s p path (e ∷ a.rest)) (sym event_is) ∙ step_is) in
        cc (wrong)

    -- a constructor that is done has no body
    bodiless : k ≡ AtDone → not (is_body (body_of_routine w.setup (PlanCode f.course f.form f.class))) ≡ true
    bodiless is =
        let constructs : f.course ≡ Constructs = done_constructs w.setup world.hierarchy f.course f.form f.class left (subst (λ (j : Kind). IsEnd w.setup f.course f.form f.class (Does j ∷ left)) is block.ends) in
        let class : class_of_part f.part ≡ f.class = ap class_or_first block.turn.turn.planned.going.0.made.of_class in
        let event : a.event ≡ event_of AtDone f.part = event_is ∙ ap (λ (j : Kind). event_of j f.part) is in
        let none : is_body (owned_body w.setup.program (Constructor (class_of_part f.part))) ≡ false = is_false _ (subst (λ (e : PartEvent). IsClosing w.setup.program e → ⊥) event (a.own frames_are)) in
        ap (λ (course : Course). not (is_body (body_of_routine w.setup (PlanCode course f.form f.class)))) constructs
        ∙ ap not (ap (λ c. is_body (owned_body w.setup.program (Constructor c))) (sym class) ∙ none)

    owns : (j : Kind) → k ≡ j → has_own_block (is_body (body_of_routine w.setup (PlanCode f.course f.form f.class))) j ≡ true
    owns AtBegin is = refl
    owns AtReady is = refl
    owns (AtInit m) is = refl
    owns AtBody is = absurd (not_body is)
    owns AtDone is = bodiless is
    owns AtEnding is = refl
    owns AtBases is = refl
    owns AtEnd is = refl

    turn_of_block : HasBlock w world.lowered.at b begins.top.block 0 (move_in w s)
    turn_of_block =
        let typed = subst (λ (fs : List PathFrame). AreTypedFrames (world_classes w) w.setup.program s.objects.classes fs) frames_are a.typed.frames in
        record {
          ops = event_block w.setup world.lowered.at f.course f.form f.class k left;
          there = ap (slice_get w.code.blocks) block.block ∙ block_there w world f.course f.form f.class k left known block.course block.ends (owns k refl);
          leads = event_leads w world s p path a typed f k left block.others block.lower b block.ends block.turn;
        }

  pub event_turn : HasBlock w world.lowered.at b begins.top.block 0 (move_in w s)
  event_turn = turn_of_block (plan_block w world.lowered.at world s p path frames_are b begins a.event a.rest a.is a.fits a.open_there a.new a.told step_is)
