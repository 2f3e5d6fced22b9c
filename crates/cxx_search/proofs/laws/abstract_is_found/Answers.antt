use Rattle.cxx_search.proofs.Abstract.{found_abstract, abstract_found}
use Rattle.cxx_search.proofs.laws.abstract_is_found.Goals as goal

pub returns : goal.returns
returns c = λ h class keeps. (found_abstract h keeps class, abstract_found h keeps class)
