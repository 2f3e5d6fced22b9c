use Rattle.path_model.proofs.RuleLaws.{view_law, pure_law}
use Rattle.path_model.proofs.laws_of_rules.views_decide.Goals as goal

pub returns-clause-within : goal.returns-clause-within
returns-clause-within c = λ h s p x keeps seen. view_law h keeps s p x seen

pub returns-clause-pure_call : goal.returns-clause-pure_call
returns-clause-pure_call c = λ h class s p x f keeps seen there. pure_law h keeps class s p x f seen there
