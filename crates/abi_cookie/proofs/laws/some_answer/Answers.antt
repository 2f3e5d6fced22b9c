use Rattle.abi_cookie.proofs.Answering.{some_answer}
use Rattle.abi_cookie.proofs.laws.some_answer.Goals as goal

pub returns : goal.returns
returns c = λ h l class n keeps known. some_answer h l class n keeps known
