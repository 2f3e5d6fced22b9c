use Rattle.std.proofs.Common.{Bool, subst, sym}
use Rattle.path_events.specs.invariants.Steps.{GivesNext}
use Rattle.path_events.proofs.plan.next_step.Goals as goal

pub returns-then-is_building : goal.returns-then-is_building
returns-then-is_building c = subst (λ (b : Bool). GivesNext c.args.course.now b c.args.course.now.frame.stage c.built_step.result) (sym c.if-is_building.true) c.built_step.ensures

pub returns-else-is_building : goal.returns-else-is_building
returns-else-is_building c = subst (λ (b : Bool). GivesNext c.args.course.now b c.args.course.now.frame.stage c.ended_step.result) (sym c.if-is_building.false) c.ended_step.ensures
