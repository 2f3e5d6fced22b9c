use Rattle.cxx_search.proofs.Casts.{cast_is, is_cast, one_answer}
use Rattle.cxx_search.proofs.laws.casts_are_found.Goals as goal

pub returns-clause-found : goal.returns-clause-found
returns-clause-found c = λ h class target x y answer keeps there. (cast_is h keeps class x there target y answer, is_cast h keeps class x there target y answer)

pub returns-clause-one : goal.returns-clause-one
returns-clause-one c = one_answer
