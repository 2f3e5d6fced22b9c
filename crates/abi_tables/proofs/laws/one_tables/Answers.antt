use Rattle.abi_tables.proofs.OneTables.{tables_same}
use Rattle.abi_tables.proofs.laws.one_tables.Goals as goal

pub returns : goal.returns
returns c = tables_same
