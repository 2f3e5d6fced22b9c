use Rattle.path_model.proofs.RuleLaws.{down_law}
use Rattle.path_model.proofs.laws_of_rules.downcasts_have_targets.Goals as goal

pub returns : goal.returns
returns c = λ h s p d target i keeps owner. down_law h keeps s p d target i owner
