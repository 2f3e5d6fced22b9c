use Rattle.abi_cookie.proofs.Elements.{ended-length, ended-at, element-once}
use Rattle.abi_cookie.proofs.laws.each_ended_once.Goals as goal

pub returns-clause-count : goal.returns-clause-count
returns-clause-count c = λ first size cookie n some. ended-length first size cookie n some

pub returns-clause-each : goal.returns-clause-each
returns-clause-each c = λ first size cookie n i some lt. ended-at first size cookie n i some lt

pub returns-clause-once : goal.returns-clause-once
returns-clause-once c = λ first size i j some same. element-once first size i j some same
