use Rattle.path_laws.proofs.Lists.{leaves_listed}
use Rattle.path_laws.proofs.laws.leaves_are_listed.Goals as goal

pub returns : goal.returns
returns c = λ h d e p keeps valid class. leaves_listed h keeps d e p valid class
