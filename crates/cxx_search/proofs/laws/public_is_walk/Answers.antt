use Rattle.cxx_search.proofs.Walks.{public_walk, walk_public}
use Rattle.cxx_search.proofs.laws.public_is_walk.Goals as goal

pub returns : goal.returns
returns c = λ h class x y keeps there. (public_walk h x y, walk_public h keeps class x y there)
