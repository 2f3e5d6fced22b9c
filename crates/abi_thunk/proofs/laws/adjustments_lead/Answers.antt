use Rattle.abi_thunk.proofs.Adjustments.{this_leads, return_leads}
use Rattle.abi_thunk.proofs.laws.adjustments_lead.Goals as goal

pub returns-clause-this : goal.returns-clause-this
returns-clause-this c = λ l class from to vcall. this_leads l class from to vcall

pub returns-clause-returns : goal.returns-clause-returns
returns-clause-returns c = λ l class path vbase. return_leads l class path vbase
