use Rattle.code_ops.specs.Setups.{setup}
use Rattle.abi_lower.proofs.RunSteps.{all_put}
use Rattle.abi_lower.proofs.block_sites.BlockSite.blocks.Goals as goal

pub returns : goal.returns
returns g c =
    let x = setup c.args.self.now.lowering.now.h.now (g.L.SoundLayout.rows c.args.self.now.lowering.now.layout.now) c.args.self.now.lowering.now.program.now in
    all_put x c.new-blocks.result c.push_runs.new.blocks c.push_classes.new.blocks c.new-blocks.ensures c.in_ok-push_runs.ensures c.in_ok-push_classes.ensures
