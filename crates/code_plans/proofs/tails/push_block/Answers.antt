use Rattle.code_ops.specs.Setups.{setup}
use Rattle.code_plans.proofs.Putting.{block_put}
use Rattle.code_plans.proofs.tails.push_block.Goals as goal

pub returns : goal.returns
returns g c = λ at items is there starts.
    let x = setup c.args.site.now.h.now (g.L.SoundLayout.rows c.args.site.now.layout.now) c.args.site.now.program.now in
    block_put x at c.args.plan.course c.args.plan.form c.args.plan.class c.args.kind items c.args.ops.now c.push_event.new.ops c.push_tail.new.ops c.in_ok-push_event.ensures (c.in_ok-push_tail.ensures at items is there starts)
