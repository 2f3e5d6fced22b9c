use Rattle.abi_cookie.proofs.Answering.{one_answer}
use Rattle.abi_cookie.proofs.laws.one_answer.Goals as goal

pub returns : goal.returns
returns c = λ h l class n one other is also. one_answer h l class n one other is also
