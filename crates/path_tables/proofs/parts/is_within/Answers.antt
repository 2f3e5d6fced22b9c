use Rattle.path_tables.proofs.Within.{within_is}
use Rattle.path_tables.proofs.parts.is_within.Goals as goal

pub returns : goal.returns
returns c = within_is c.args.h.now c.keeps.ensures c.args.x.now c.args.y.now c.contains.result c.contains.ensures
