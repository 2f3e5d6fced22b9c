use Rattle.std.proofs.Common.{◌≡◌, ◌+◌, List, ◌++◌, ap, arith, ◌∙◌}
use Rattle.byte_code.specs.declared.code.Block.{Block}
use Rattle.code_ops.specs.Setups.{setup, PlanCode}
use Rattle.code_ops.specs.Routines.{start_by}
use Rattle.code_blocks.specs.Blocks.{items}
use Rattle.abi_lower.specs.invariants.Numbers.{own_events}
use Rattle.abi_lower.proofs.PlanRuns.{all_own}
use Rattle.abi_lower.proofs.RunSteps.{body_site, body_room, runs_at, plan_run_none, plan_run_some, two_pieces}
use Rattle.abi_lower.proofs.block_sites.BlockSite.push_plan_run.Goals as goal

pub push_events-requires-clause-count : goal.push_events-requires-clause-count
push_events-requires-clause-count g c =
    let x = setup c.args.self.now.lowering.now.h.now (g.L.SoundLayout.rows c.args.self.now.lowering.now.layout.now) c.args.self.now.lowering.now.program.now in
    let run = c.args.run in
    all_own x c.args.self.now.numbers.now run c.args.all.now c.requires.run c.requires.items

pub push_body-requires-clause-body : goal.push_body-requires-clause-body
push_body-requires-clause-body g c =
    let x = setup c.args.self.now.lowering.now.h.now (g.L.SoundLayout.rows c.args.self.now.lowering.now.layout.now) c.args.self.now.lowering.now.program.now in
    let run = c.args.run in
    let plan = PlanCode run.plan.course run.plan.form run.plan.class in
    body_site x c.args.self.now.lowering.now.overriders.now c.args.self.now.lowering.now.slots.now c.args.self.now.lowering.now.index.now c.args.self.now.lowering.now.orders.now c.requires.site.lowering c.args.self.now.numbers.now c.requires.site.numbered plan c.in-Some.body.now c.in-Some.ensures

pub push_body-requires-clause-room : goal.push_body-requires-clause-room
push_body-requires-clause-room g c =
    let x = setup c.args.self.now.lowering.now.h.now (g.L.SoundLayout.rows c.args.self.now.lowering.now.layout.now) c.args.self.now.lowering.now.program.now in
    let run = c.args.run in
    let plan = PlanCode run.plan.course run.plan.form run.plan.class in
    let known = c.requires.run in
    let begins : run.first + run.own ≡ start_by x c.args.self.now.numbers.now plan + own_events x plan = omega (arith, known.begins, known.counted) in
    body_room x c.args.self.now.lowering.now.overriders.now c.args.self.now.lowering.now.slots.now c.args.self.now.lowering.now.index.now c.args.self.now.lowering.now.orders.now c.requires.site.lowering c.args.self.now.numbers.now c.requires.site.numbered plan c.in-Some.body.now (run.first + run.own) c.requires.routine c.in-Some.ensures begins

pub returns-in-None : goal.returns-in-None
returns-in-None g c =
    let x = setup c.args.self.now.lowering.now.h.now (g.L.SoundLayout.rows c.args.self.now.lowering.now.layout.now) c.args.self.now.lowering.now.program.now in
    let run = c.args.run in
    let plan = PlanCode run.plan.course run.plan.form run.plan.class in
    c.in_ok-push_events.ensures (items x run.plan.course run.plan.form run.plan.class) c.requires.items ∙ ap (λ (l : List Block). c.args.blocks.now ++ l) (plan_run_none x run.plan.course run.plan.form run.plan.class c.in-None.ensures)

pub returns-in_ok-push_body-in-Some : goal.returns-in_ok-push_body-in-Some
returns-in_ok-push_body-in-Some g c =
    let x = setup c.args.self.now.lowering.now.h.now (g.L.SoundLayout.rows c.args.self.now.lowering.now.layout.now) c.args.self.now.lowering.now.program.now in
    let run = c.args.run in
    let plan = PlanCode run.plan.course run.plan.form run.plan.class in
    let known = c.requires.run in
    let begins : run.first + run.own ≡ start_by x c.args.self.now.numbers.now plan + own_events x plan = omega (arith, known.begins, known.counted) in
    let runs = runs_at x c.args.self.now.lowering.now.overriders.now c.args.self.now.lowering.now.slots.now c.args.self.now.lowering.now.index.now c.args.self.now.lowering.now.orders.now c.requires.site.lowering c.args.self.now.numbers.now c.requires.site.numbered plan c.in-Some.body.now (run.first + run.own) c.in-Some.ensures begins in
    two_pieces c.args.blocks.now _ _ _ _ _ (c.in_ok-push_events.ensures (items x run.plan.course run.plan.form run.plan.class) c.requires.items)
    (c.in_ok-push_body-in-Some.ensures plan runs c.in_ok-end-in-Some.ensures) (plan_run_some x run.plan.course run.plan.form run.plan.class c.in-Some.body.now c.in-Some.ensures)
