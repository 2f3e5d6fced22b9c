use Rattle.path_model.proofs.Sorted.{asks_all, broken_append}
use Rattle.path_model.proofs.laws.stages_follow.Goals as goal

pub returns-clause-stages : goal.returns-clause-stages
returns-clause-stages c = λ h s first second. broken_append h s first second

pub returns-clause-asked : goal.returns-clause-asked
returns-clause-asked c = λ h s rule u broken. asks_all h s rule u broken
