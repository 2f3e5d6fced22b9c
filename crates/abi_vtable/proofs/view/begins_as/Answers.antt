use Rattle.abi_vtable.proofs.Paths.{same_more}
use Rattle.abi_vtable.proofs.view.begins_as.Goals as goal

pub loop-i-preserved : goal.loop-i-preserved
loop-i-preserved c = same_more c.args.path.now c.args.front.now c.loop-i.i c.class_in-c.result c.class_in-d.result c.loop-i.same c.and_same-same.result c.class_in-c.ensures c.class_in-d.ensures c.loop-i.invariant c.and_same-same.ensures
