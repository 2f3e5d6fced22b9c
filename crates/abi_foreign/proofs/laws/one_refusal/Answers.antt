use Rattle.abi_foreign.proofs.OneAnswer.{not_both, one_stop}
use Rattle.abi_foreign.proofs.laws.one_refusal.Goals as goal

pub returns-clause-apart : goal.returns-clause-apart
returns-clause-apart c = λ h text rows stop keeps is refused. not_both h keeps text rows stop is refused

pub returns-clause-one : goal.returns-clause-one
returns-clause-one c = λ h text stop other keeps first second. one_stop h keeps text stop other first second
