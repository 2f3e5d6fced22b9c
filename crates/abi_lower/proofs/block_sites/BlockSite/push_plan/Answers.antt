use Rattle.std.proofs.Common.{arith, ◌∙◌}
use Rattle.code_ops.specs.Setups.{setup}
use Rattle.abi_lower.specs.invariants.Lowerings.{IsPlanRun}
use Rattle.abi_lower.proofs.RunSteps.{is_plan_run}
use Rattle.abi_lower.proofs.block_sites.BlockSite.push_plan.Goals as goal

pub overflow_cast-run : goal.overflow_cast-run
overflow_cast-run g c =
    let x = setup c.args.self.now.lowering.now.h.now (g.L.SoundLayout.rows c.args.self.now.lowering.now.layout.now) c.args.self.now.lowering.now.program.now in
    let run : IsPlanRun x c.args.self.now.numbers.now (record { plan = record { course = c.args.course; form = c.args.form; class = c.args.class }; first = c.first_block.result; own = c.count_own.result; has_body = c.has_body-has_body.result }) =
    let list = c.as_slice.ensures ∙ c.in_ok-all.ensures in
    is_plan_run x c.args.self.now.lowering.now.overriders.now c.args.self.now.lowering.now.slots.now c.args.self.now.lowering.now.index.now c.args.self.now.lowering.now.orders.now c.requires.site.lowering c.args.self.now.numbers.now c.requires.site.numbered (record { course = c.args.course; form = c.args.form; class = c.args.class }) c.owner.result c.first_block.result c.count_own.result c.has_body-has_body.result c.as_slice.result.now
    c.requires.routine c.owner.ensures (c.has_body-has_body.ensures c.args.self.now.lowering.now.program.now c.requires.site.lowering.is_index) list c.count_own.ensures c.first_block.ensures in
    let room = run.room in omega arith

pub push_plan_run-requires-clause-run : goal.push_plan_run-requires-clause-run
push_plan_run-requires-clause-run g c =
    let x = setup c.args.self.now.lowering.now.h.now (g.L.SoundLayout.rows c.args.self.now.lowering.now.layout.now) c.args.self.now.lowering.now.program.now in
    let list = c.as_slice.ensures ∙ c.in_ok-all.ensures in
    is_plan_run x c.args.self.now.lowering.now.overriders.now c.args.self.now.lowering.now.slots.now c.args.self.now.lowering.now.index.now c.args.self.now.lowering.now.orders.now c.requires.site.lowering c.args.self.now.numbers.now c.requires.site.numbered (record { course = c.args.course; form = c.args.form; class = c.args.class }) c.owner.result c.first_block.result c.count_own.result c.has_body-has_body.result c.as_slice.result.now
    c.requires.routine c.owner.ensures (c.has_body-has_body.ensures c.args.self.now.lowering.now.program.now c.requires.site.lowering.is_index) list c.count_own.ensures c.first_block.ensures
