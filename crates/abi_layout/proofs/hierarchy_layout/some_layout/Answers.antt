use Rattle.abi_layout.proofs.rules.SomeLayout.{some_layout}
use Rattle.abi_layout.proofs.hierarchy_layout.some_layout.Goals as goal

pub returns : goal.returns
returns c = some_layout
