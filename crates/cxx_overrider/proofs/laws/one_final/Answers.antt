use Rattle.cxx_overrider.proofs.FinalLaws.{some_final, one_at_most}
use Rattle.cxx_overrider.proofs.laws.one_final.Goals as goal

pub returns-clause-some : goal.returns-clause-some
returns-clause-some c = λ h class s f keeps fine is. some_final h keeps fine class s f is

pub returns-clause-one : goal.returns-clause-one
returns-clause-one c = λ h class s f o p a b. one_at_most h class s f o p a b
