use Rattle.abi_cookie.proofs.Elements.{elements-length, elements-at, elements-apart, element-inside}
use Rattle.abi_cookie.proofs.laws.elements_lie_apart.Goals as goal

pub returns-clause-count : goal.returns-clause-count
returns-clause-count c = λ first size n. elements-length first size n

pub returns-clause-each : goal.returns-clause-each
returns-clause-each c = λ first size n i lt. elements-at first size n i lt

pub returns-clause-apart : goal.returns-clause-apart
returns-clause-apart c = λ first size n. elements-apart first size n

pub returns-clause-inside : goal.returns-clause-inside
returns-clause-inside c = λ first size n i lt. element-inside first size n i lt
