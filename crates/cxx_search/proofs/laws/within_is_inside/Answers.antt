use Rattle.cxx_search.proofs.Within.{within_inside, inside_within}
use Rattle.cxx_search.proofs.laws.within_is_inside.Goals as goal

pub returns : goal.returns
returns c = λ h x y keeps. (within_inside h x y, inside_within h keeps x y)
