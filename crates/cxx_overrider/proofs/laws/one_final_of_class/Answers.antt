use Rattle.cxx_overrider.proofs.FinalLaws.{one_of_class}
use Rattle.cxx_overrider.proofs.laws.one_final_of_class.Goals as goal

pub returns : goal.returns
returns c = λ h class s t f o keeps k valid same inside. one_of_class h keeps class s t f o k valid same inside
