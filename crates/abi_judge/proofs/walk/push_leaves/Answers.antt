use Rattle.abi_judge.specs.invariants.Leaves.{leaf_from}
use Rattle.abi_judge.proofs.Ranges.{range_map_next}
use Rattle.abi_judge.proofs.walk.push_leaves.Goals as goal

pub loop-i-preserved : goal.loop-i-preserved
loop-i-preserved c = range_map_next (leaf_from c.args.first) c.loop-i.i c.args.things.now.items c.loop-i.things.items c.push.new.self.items c.loop-i.invariant c.in_ok-push.ensures.items
