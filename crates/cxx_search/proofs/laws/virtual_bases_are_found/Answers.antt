use Rattle.cxx_search.proofs.Bases.{found_virtual, virtual_found}
use Rattle.cxx_search.proofs.laws.virtual_bases_are_found.Goals as goal

pub returns : goal.returns
returns c = λ h class keeps. (found_virtual h class, virtual_found h keeps class)
