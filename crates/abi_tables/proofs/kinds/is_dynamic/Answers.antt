use Rattle.abi_tables.proofs.ViewLemmas.{dynamic_is}
use Rattle.abi_tables.proofs.kinds.is_dynamic.Goals as goal

pub returns : goal.returns
returns c = dynamic_is c.args.h.now c.keeps.ensures c.args.c c.is_dynamic.result c.is_dynamic.ensures
