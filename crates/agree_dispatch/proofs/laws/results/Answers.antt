use Rattle.agree_dispatch.proofs.Moving.{moved_plain, moved_shared}
use Rattle.agree_dispatch.proofs.laws.results.Goals as goal

pub returns-clause-plain : goal.returns-clause-plain
returns-clause-plain _ h rows image memory d at p g f e i keeps fine sound known fits there class r root = moved_plain h rows keeps fine sound image memory d at p g f e i known fits there class r root

pub returns-clause-shared : goal.returns-clause-shared
returns-clause-shared _ h rows image memory d at y x placed s g f e v i stands there class r root = moved_shared h rows stands.keeps stands.faultless stands.sound image memory d at y x placed s g f e v i stands there class r root
