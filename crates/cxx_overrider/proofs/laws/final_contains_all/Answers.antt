use Rattle.cxx_overrider.proofs.FinalLaws.{contains_all}
use Rattle.cxx_overrider.proofs.laws.final_contains_all.Goals as goal

pub returns : goal.returns
returns c = λ h class s f signature o p keeps k same cand. contains_all h keeps class s f signature o p k same cand
