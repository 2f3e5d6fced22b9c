use Rattle.code_ops.specs.Setups.{setup}
use Rattle.code_plans.proofs.Putting.{constant_put}
use Rattle.code_plans.proofs.events.push_constant.Goals as goal

pub returns : goal.returns
returns g c = λ form.
    let rows = g.L.SoundLayout.rows c.args.site.now.layout.now in
    let x = setup c.args.site.now.h.now rows c.args.site.now.program.now in
    constant_put x c.args.plan.course form c.args.plan.class c.args.m c.args.init.now c.free-value.result c.member_place-place.result c.leaf_width-leaf.result c.store.result c.args.ops.now c.push_operand.new.ops c.push_converted.new.ops c.push.new.self
    (c.free-value.ensures.is rows form) c.in_ok-push_operand.ensures (c.in_ok-push_converted.ensures x) c.member_place-place.ensures c.leaf_width-leaf.ensures c.store.ensures c.in_ok-push.ensures.ok
