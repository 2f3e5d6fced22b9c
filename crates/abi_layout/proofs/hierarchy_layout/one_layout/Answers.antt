use Rattle.std.proofs.Common.{length, arith}
use Rattle.abi_layout.proofs.rules.OneLayoutFirst.{layout_is_one}
use Rattle.abi_layout.proofs.hierarchy_layout.one_layout.Goals as goal

pub returns : goal.returns
returns c = λ h rows others keeps l k. layout_is_one h (length h) rows others keeps (omega arith) l k
