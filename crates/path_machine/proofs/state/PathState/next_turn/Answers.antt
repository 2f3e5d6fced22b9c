use Rattle.std.proofs.Common.{◌∙◌, ap, rules, refl, subst}
use Rattle.path_model.specs.declared.outs.Turn.TheVariants.{Ended, Refused, OutOfSteps as IsOutOfSteps, Limit}
use Rattle.path_machine.specs.Turns.{IsInRun}
use Rattle.path_machine.specs.declared.state.PathState.{PathState}
use Rattle.path_machine.specs.invariants.Ends.{step_counted}
use Rattle.path_machine.specs.invariants.Steps.{size_in}
use Rattle.path_machine.proofs.Turning.{ends_now, goes_on, left_by, no_steps}
use Rattle.path_machine.proofs.state.PathState.next_turn.Goals as goal

-- an answer of before
pub returns-in-Some : goal.returns-in-Some
returns-in-Some c = record { stands = c.requires.stands; agrees = search rules; failed = refl }

-- the budget is spent
pub returns-then-self : goal.returns-then-self
returns-then-self c =
    let h = c.args.run.now.world.h.now in
    let sizes = size_in c.args.run.now.sizes.now in
    let program = c.args.run.now.program.now in
    let before = c.args.self.now in
    let at = subst (IsInRun h sizes program before) c.in-None.is c.requires.stands in
    let spent = no_steps h sizes program before c.args.outs.now (λ n m runs. c.runs_go_on.ensures h sizes program n m runs) at (search rules) in
    let r = ends_now h sizes program before before c.finish.new.self IsOutOfSteps c.finish.result 0 c.args.outs.now c.args.outs.now c.in-None.is (λ e. cc) spent refl (search rules) c.finish.ensures in
    record { stands = r.0; agrees = r.1; failed = ap (λ (s : PathState). s.failed) c.finish.ensures.is }

pub move_on-requires-clause-at : goal.move_on-requires-clause-at
move_on-requires-clause-at c =
    subst (IsInRun c.args.run.now.world.h.now (size_in c.args.run.now.sizes.now) c.args.run.now.program.now c.args.self.now) c.in-None.is c.requires.stands

-- no step goes wrong
pub unreachable-requires : goal.unreachable-requires
unreachable-requires c =
    left_by c.args.run.now.world.h.now (size_in c.args.run.now.sizes.now) c.args.run.now.program.now c.args.self.now c.move_on.new.self c.args.outs.now c.move_on.new.outs c.in-Wrong.is c.in_ok-move_on.ensures

-- a step that was taken
pub returns-in-Goes : goal.returns-in-Goes
returns-in-Goes c =
    let r = goes_on c.args.run.now.world.h.now (size_in c.args.run.now.sizes.now) c.args.run.now.program.now c.args.self.now c.move_on.new.self c.args.outs.now c.move_on.new.outs c.in_ok-move_on.field-0 c.in-None.is c.in_ok-move_on.ensures c.in-Goes.is in
    record { stands = r.0; agrees = r.1; failed = c.in_ok-move_on.ensures.failed }

pub returns-in-Ends : goal.returns-in-Ends
returns-in-Ends c =
    let k = c.in_ok-move_on.ensures in
    let r = ends_now c.args.run.now.world.h.now (size_in c.args.run.now.sizes.now) c.args.run.now.program.now c.args.self.now (step_counted c.move_on.new.self) c.finish-in-Ends.new.self Ended c.finish-in-Ends.result 1 c.args.outs.now c.move_on.new.outs c.in-None.is (λ e. cc) (left_by c.args.run.now.world.h.now (size_in c.args.run.now.sizes.now) c.args.run.now.program.now c.args.self.now c.move_on.new.self c.args.outs.now c.move_on.new.outs c.in-Ends.is k) k.budget (search rules) c.finish-in-Ends.ensures in
    record { stands = r.0; agrees = r.1; failed = ap (λ (s : PathState). s.failed) c.finish-in-Ends.ensures.is ∙ k.failed }

pub returns-in-Refuses : goal.returns-in-Refuses
returns-in-Refuses c =
    let k = c.in_ok-move_on.ensures in
    let r = ends_now c.args.run.now.world.h.now (size_in c.args.run.now.sizes.now) c.args.run.now.program.now c.args.self.now (c.move_on.new.self) c.finish-in-Refuses.new.self (Refused c.in-Refuses.rule c.in-Refuses.line) c.finish-in-Refuses.result 0 c.args.outs.now c.move_on.new.outs c.in-None.is (λ e. cc) (left_by c.args.run.now.world.h.now (size_in c.args.run.now.sizes.now) c.args.run.now.program.now c.args.self.now c.move_on.new.self c.args.outs.now c.move_on.new.outs c.in-Refuses.is k) k.budget (search rules) c.finish-in-Refuses.ensures in
    record { stands = r.0; agrees = r.1; failed = ap (λ (s : PathState). s.failed) c.finish-in-Refuses.ensures.is ∙ k.failed }

pub returns-in-Limited : goal.returns-in-Limited
returns-in-Limited c =
    let k = c.in_ok-move_on.ensures in
    let r = ends_now c.args.run.now.world.h.now (size_in c.args.run.now.sizes.now) c.args.run.now.program.now c.args.self.now (c.move_on.new.self) c.finish-in-Limited.new.self (Limit c.in-Limited.limit) c.finish-in-Limited.result 0 c.args.outs.now c.move_on.new.outs c.in-None.is (λ e. cc) (left_by c.args.run.now.world.h.now (size_in c.args.run.now.sizes.now) c.args.run.now.program.now c.args.self.now c.move_on.new.self c.args.outs.now c.move_on.new.outs c.in-Limited.is k) k.budget (search rules) c.finish-in-Limited.ensures in
    record { stands = r.0; agrees = r.1; failed = ap (λ (s : PathState). s.failed) c.finish-in-Limited.ensures.is ∙ k.failed }
