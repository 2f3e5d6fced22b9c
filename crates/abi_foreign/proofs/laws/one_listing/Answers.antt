use Rattle.abi_foreign.proofs.OneAnswer.{one_layout}
use Rattle.abi_foreign.proofs.laws.one_listing.Goals as goal

pub returns : goal.returns
returns c = λ h text rows others keeps one two. one_layout h keeps text rows others one two
