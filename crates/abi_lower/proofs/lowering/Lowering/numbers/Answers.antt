use Rattle.code_ops.specs.Setups.{setup}
use Rattle.abi_lower.proofs.Placing.{rows_distinct_as}
use Rattle.abi_lower.proofs.lowering.Lowering.numbers.Goals as goal

pub new-requires : goal.new-requires
new-requires g c =
    let x = setup c.args.self.now.h.now (g.L.SoundLayout.rows c.args.self.now.layout.now) c.args.self.now.program.now in
    rows_distinct_as x c.in_ok-rows.rows c.requires.lowering.typed c.in_ok-rows.ensures
