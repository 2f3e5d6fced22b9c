use Rattle.abi_dyncast.proofs.OneAnswer.{one_result, one_within}
use Rattle.abi_dyncast.proofs.laws.one_answer.Goals as goal

pub returns-clause-cast : goal.returns-clause-cast
returns-clause-cast c = one_result

pub returns-clause-within : goal.returns-clause-within
returns-clause-within c = one_within
