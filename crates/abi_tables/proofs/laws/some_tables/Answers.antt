use Rattle.abi_tables.proofs.SomeTables as exist
use Rattle.abi_tables.proofs.laws.some_tables.Goals as goal

pub returns : goal.returns
returns c = λ h rows k keeps fine sound known. exist.some_tables h rows keeps sound k known fine
