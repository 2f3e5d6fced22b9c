use Rattle.path_values.proofs.Turns.{within}
use Rattle.path_values.proofs.numbers.wrap_within.Goals as goal

pub returns : goal.returns
returns c = within c.args.z c.args.below c.args.count c.ranges.z c.ranges.below.fits c.requires.least c.requires.many c.requires.power c.rem_euclid.result c.rem_euclid.ensures.value
