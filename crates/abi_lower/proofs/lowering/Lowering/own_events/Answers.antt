use Rattle.std.proofs.Common.{◌∙◌}
use Rattle.code_ops.specs.Setups.{setup}
use Rattle.abi_lower.proofs.Counted.{none_counted, plan_counted}
use Rattle.abi_lower.proofs.lowering.Lowering.own_events.Goals as goal

pub returns-in-Main : goal.returns-in-Main
returns-in-Main g c = none_counted (setup c.args.self.now.h.now (g.L.SoundLayout.rows c.args.self.now.layout.now) c.args.self.now.program.now) c.args.r c.in-Main.is

pub returns-in_ok-list-in-Plan : goal.returns-in_ok-list-in-Plan
returns-in_ok-list-in-Plan g c = plan_counted (setup c.args.self.now.h.now (g.L.SoundLayout.rows c.args.self.now.layout.now) c.args.self.now.program.now) c.args.r c.in-Plan.course c.in-Plan.form c.in-Plan.c
    c.owner.result c.count_own.result c.has_body-has_body.result c.as_slice.result.now c.in-Plan.is c.owner.ensures (c.has_body-has_body.ensures c.args.self.now.program.now c.requires.plans.is_index)
    (c.as_slice.ensures ∙ c.in_ok-list-in-Plan.ensures) c.count_own.ensures
