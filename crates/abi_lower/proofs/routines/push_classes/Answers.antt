use Rattle.std.proofs.Common.{◌<◌, length, arith}
use Rattle.abi_lower.specs.invariants.Numbers.{plan_routines}
use Rattle.abi_lower.specs.invariants.Codes.{routines_from}
use Rattle.abi_lower.proofs.ClassSteps.{class_more}
use Rattle.abi_lower.proofs.routines.push_classes.Goals as goal

pub loop-n-preserved : goal.loop-n-preserved
loop-n-preserved c =
    let low : c.loop-n.n < length c.args.h.now = omega (arith, c.len-n-end.ensures) in
    class_more plan_routines c.loop-n.n (length c.args.h.now) (routines_from c.loop-n.list) (routines_from c.push_plans.new.list) _ low c.in_ok-push_plans.ensures c.loop-n.invariant
