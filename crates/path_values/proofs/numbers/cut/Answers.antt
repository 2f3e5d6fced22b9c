use Rattle.path_values.proofs.Bits.{shifted_power}
use Rattle.path_values.proofs.numbers.cut.Goals as goal

pub wrap_within-requires-clause-power : goal.wrap_within-requires-clause-power
wrap_within-requires-clause-power c = shifted_power c.args.bits c.requires
