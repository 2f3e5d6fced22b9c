use Rattle.path_laws.proofs.VirtualFunctions.{found_declares, declares_found}
use Rattle.path_laws.proofs.laws.polymorphic_is_found.Goals as goal

pub returns : goal.returns
returns c = λ h d keeps. (λ found. found_declares h d found, λ declares. declares_found h keeps d declares)
