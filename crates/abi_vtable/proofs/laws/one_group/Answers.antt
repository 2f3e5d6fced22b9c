use Rattle.abi_vtable.proofs.OneGroup.{groups_same}
use Rattle.abi_vtable.proofs.laws.one_group.Goals as goal

pub returns : goal.returns
returns c = groups_same
