use Rattle.std.proofs.Common.{◌<◌, length, arith}
use Rattle.code_ops.specs.Setups.{setup}
use Rattle.abi_lower.specs.invariants.Runs.{class_blocks}
use Rattle.abi_lower.proofs.ClassSteps.{class_more}
use Rattle.abi_lower.proofs.block_sites.BlockSite.push_classes.Goals as goal

pub push_class-requires-clause-known : goal.push_class-requires-clause-known
push_class-requires-clause-known g c = omega (arith, c.len-n-end.ensures)

pub loop-n-preserved : goal.loop-n-preserved
loop-n-preserved g c =
    let x = setup c.args.self.now.lowering.now.h.now (g.L.SoundLayout.rows c.args.self.now.lowering.now.layout.now) c.args.self.now.lowering.now.program.now in
    let low : c.loop-n.n < length c.args.self.now.lowering.now.h.now = omega (arith, c.len-n-end.ensures) in
    class_more (class_blocks x) c.loop-n.n (length c.args.self.now.lowering.now.h.now) c.loop-n.blocks c.push_class.new.blocks _ low c.in_ok-push_class.ensures c.loop-n.invariant
