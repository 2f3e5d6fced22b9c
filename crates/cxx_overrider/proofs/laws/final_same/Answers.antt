use Rattle.cxx_overrider.proofs.FinalLaws.{same_final}
use Rattle.cxx_overrider.proofs.laws.final_same.Goals as goal

pub returns : goal.returns
returns c = λ h class s t f g o keeps fine k is inside same. same_final h keeps fine class s t f g o k is inside same
