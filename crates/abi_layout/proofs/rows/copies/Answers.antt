use Rattle.std.proofs.Common.{arith}
use Rattle.abi_layout.specs.Limits.{size_limit}
use Rattle.abi_layout.proofs.rules.Parts.{within_fits}
use Rattle.abi_layout.proofs.algorithm.RowLemmas.{copy_fits}
use Rattle.abi_layout.proofs.rows.copies.Goals as goal

pub push_moved-requires : goal.push_moved-requires
push_moved-requires c =
    let fits = copy_fits c.loop-index.index c.args.count c.args.stride size_limit c.loop-index-test.true c.requires.bounded in
    within_fits c.args.stride (Rattle.std.proofs.Common.◌*◌ c.loop-index.index c.args.stride) c.args.parts.now (omega arith) c.requires.within
