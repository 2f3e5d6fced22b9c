use Rattle.cxx_overrider.proofs.ReturnLaws.{fits}
use Rattle.cxx_overrider.proofs.laws.returns_fit.Goals as goal

pub returns : goal.returns
returns c = λ h f g t u keeps fine k returns returned. fits h keeps fine f g k t u returns returned
