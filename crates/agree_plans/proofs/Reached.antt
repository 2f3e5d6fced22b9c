-- In every state of a run, the block of a plan on top, or of the end of a body of a plan, stands in the code and agrees with the move.
use Rattle.std.proofs.Common.{◌≡◌, ℕ, suc, false, None, List, ◌∷◌, ap, subst, sym, ◌∙◌}
use Rattle.cxx_hierarchy.specs.declared.records.ClassId.{ClassId}
use Rattle.cxx_program.specs.declared.program.Owner.TheVariants.{Constructor, Destructor}
use Rattle.cxx_program.specs.declared.program.TypedBody.{TypedBody}
use Rattle.path_model.specs.States.{ProgramState, RunningBody as PathBody, Planned, Frame as PathFrame, InBody, InPlan}
use Rattle.path_model.specs.Typed.{AllSettled}
use Rattle.path_model.specs.Runs.{Move, state_at, state_behind}
use Rattle.byte_machine.specs.Running.{Running}
use Rattle.agree_relation.specs.Worlds.{World, IsProgramWorld, world_classes, places_in}
use Rattle.agree_statements.specs.Statements.{BeginsBlock, AreSeen}
use Rattle.agree_statements.proofs.Moves.{move_in}
use Rattle.agree_runs.specs.Accepted.{IsAccepted}
use Rattle.agree_runs.specs.NextSteps.{HappensNext, IsAtEnd}
use Rattle.agree_runs.proofs.Accepted.{world_accepted}
use Rattle.agree_runs.proofs.Bodies.{constructor_ends, destructor_ends}
use Rattle.agree_runs.proofs.Events.{next_event}
use Rattle.agree_runs.proofs.Seen.{are_seen}
use Rattle.agree_runs.proofs.Tops.{state_typed, all_settled}
use Rattle.agree_plans.specs.Courses.{StartsOwn, MayGo, AreOrderly, IsOrderlyState}
use Rattle.agree_plans.specs.Turns.{IsUnderWay, HasBlock}
use Rattle.agree_plans.proofs.BodyTurns.{constructor_turn, destructor_turn}
use Rattle.agree_plans.proofs.EventTurns.{event_turn}
use Rattle.agree_plans.proofs.Orders.{runs_in_order}

module _ (w : World) (world : IsProgramWorld w) (n : ℕ) where
  abbrev reached : ℕ → ProgramState
  reached m = state_at (world_classes w) (places_in w).size w.setup.program m

  abbrev pub s : ProgramState
  s = state_at (world_classes w) (places_in w).size w.setup.program n

  accepted : IsAccepted (world_classes w) w.setup.program
  accepted = world_accepted w world

  in_order : IsOrderlyState w.setup.program s
  in_order = runs_in_order (world_classes w) w.setup.program world.typed (places_in w).size n

  -- the plan whose event is the step
  under_way : (p : Planned) (path : List PathFrame) → HappensNext (world_classes w) (places_in w).size w.setup.program s p path → (p.is_building ≡ false → p.target ≡ None) → (s.frames ≡ InPlan p ∷ path → StartsOwn w.setup.program p.events) → IsUnderWay w s p path
  under_way p path a silent own =
      let same : reached (suc n) ≡ a.new = ap (λ (m : Move). state_behind m s) a.moves in
      record {
        event = a.event;
        rest = a.rest;
        is = a.is;
        fits = a.fits;
        open_there = a.open_there;
        own = λ top. subst (StartsOwn w.setup.program) a.is (own top);
        new = a.new;
        told = a.told;
        steps = a.steps;
        moves = a.moves;
        typed = state_typed (world_classes w) (places_in w).size w.setup.program n accepted;
        silent = silent;
        settled = λ f below top.
            subst (λ (x : ProgramState). AllSettled (world_classes w) x.objects) same (all_settled (world_classes w) (places_in w).size w.setup.program (suc n) accepted f below (ap (λ (x : ProgramState). x.frames) same ∙ top));
        seen = λ f below top.
            subst (λ (x : ProgramState). AreSeen (world_classes w) x.objects) same (are_seen (world_classes w) world.hierarchy (places_in w).size w.setup.program (suc n) f below (ap (λ (x : ProgramState). x.frames) same ∙ top));
      }

  module _ (b : Running) (begins : BeginsBlock w world.lowered.at (state_at (world_classes w) (places_in w).size w.setup.program n) b) where
    pub plan_turn : (p : Planned) (path : List PathFrame) → (state_at (world_classes w) (places_in w).size w.setup.program n).frames ≡ InPlan p ∷ path → HasBlock w world.lowered.at b begins.top.block 0 (move_in w (state_at (world_classes w) (places_in w).size w.setup.program n))
    plan_turn p path top =
        let order = subst (AreOrderly w.setup.program) top in_order.1 in
        event_turn w world s p path top b begins
        (under_way p path (next_event (world_classes w) (places_in w).size w.setup.program n accepted p path top) order.0.silent (λ is. subst (MayGo w.setup.program) is in_order.0))

    pub constructor_closes : (f : PathBody) (below : List PathFrame) (body : TypedBody) → IsAtEnd w (state_at (world_classes w) (places_in w).size w.setup.program n) f below body → (c : ClassId) → f.owner ≡ Constructor c
        → HasBlock w world.lowered.at b begins.top.block body.close_line (move_in w (state_at (world_classes w) (places_in w).size w.setup.program n))
    constructor_closes f below body ended c owner =
        let ends = constructor_ends (world_classes w) (places_in w).size w.setup.program n accepted f below body ended.frames ended.there ended.over c owner in
        let top = ended.frames ∙ ap (λ (fs : List PathFrame). InBody f ∷ fs) ends.is in
        let order = subst (AreOrderly w.setup.program) top in_order.1 in
        constructor_turn w world s f ends.plan ends.path body top ended.there ended.over ended.typed b begins c owner
        (under_way ends.plan ends.path ends.next order.1.0.silent (λ is. absurd (let two : InBody f ∷ InPlan ends.plan ∷ ends.path ≡ InPlan ends.plan ∷ ends.path = sym top ∙ is in cc (two))))

    pub destructor_closes : (f : PathBody) (below : List PathFrame) (body : TypedBody) → IsAtEnd w (state_at (world_classes w) (places_in w).size w.setup.program n) f below body → (c : ClassId) → f.owner ≡ Destructor c
        → HasBlock w world.lowered.at b begins.top.block body.close_line (move_in w (state_at (world_classes w) (places_in w).size w.setup.program n))
    destructor_closes f below body ended c owner =
        let ends = destructor_ends (world_classes w) (places_in w).size w.setup.program n accepted f below body ended.frames ended.there ended.over c owner in
        let top = ended.frames ∙ ap (λ (fs : List PathFrame). InBody f ∷ fs) ends.is in
        subst (HasBlock w world.lowered.at b begins.top.block body.close_line) (sym ends.moves) (destructor_turn w world s f ends.plan ends.path body top ended.there ended.over ended.typed b begins c owner)
