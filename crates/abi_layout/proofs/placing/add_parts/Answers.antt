use Rattle.std.proofs.Common.{map, refl}
use Rattle.abi_emptybase.specs.Table.{moved_part}
use Rattle.abi_layout.proofs.rules.Parts.{table_stays}
use Rattle.abi_layout.proofs.placing.add_parts.Goals as goal

pub returns-clause-table : goal.returns-clause-table
returns-clause-table c = table_stays c.args.placing.now _ (map (moved_part c.args.at) c.args.parts.now) refl refl c.in_ok-push_moved.ensures c.requires.table
