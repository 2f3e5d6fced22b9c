use Rattle.std.proofs.Common.{◌+◌}
use Rattle.code_ops.specs.Setups.{setup}
use Rattle.abi_lower.specs.invariants.Numbers.{block_number}
use Rattle.abi_lower.proofs.PlanRuns.{left_behind_item, count_behind_item, event_more}
use Rattle.abi_lower.proofs.plan_blocks.push_events.Goals as goal

pub push_item-requires-clause-left : goal.push_item-requires-clause-left
push_item-requires-clause-left g c =
    let x = setup c.args.site.now.h.now (g.L.SoundLayout.rows c.args.site.now.layout.now) c.args.site.now.program.now in
    left_behind_item x c.args.run.plan.course c.args.run.plan.form c.args.run.plan.class c.args.items.now (c.loop-i.i + 1) c.requires.left

pub loop-i-preserved : goal.loop-i-preserved
loop-i-preserved g c =
    let x = setup c.args.site.now.h.now (g.L.SoundLayout.rows c.args.site.now.layout.now) c.args.site.now.program.now in
    let run = c.args.run in
    record {
      done = count_behind_item run.has_body c.args.items.now (c.loop-i.i + 1) c.in_ok-done.done run.own c.in_ok-done.ensures.done;
      blocks = λ plan is. event_more x (block_number x) run.plan.course run.plan.form run.plan.class c.args.items.now c.loop-i.blocks c.push_item.new.blocks _ c.loop-i.i _ plan is c.loop-i-test.true c.in_ok-done.ensures.blocks (c.loop-i.invariant.blocks plan is);
    }
