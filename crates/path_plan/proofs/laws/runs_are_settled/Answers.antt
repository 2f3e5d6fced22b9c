use Rattle.path_plan.proofs.Kept.{reached_fits, reached_settled}
use Rattle.path_plan.proofs.laws.runs_are_settled.Goals as goal

pub returns-clause-fits : goal.returns-clause-fits
returns-clause-fits c = λ h bodies r keeps reached. reached_fits h keeps bodies r reached

pub returns-clause-settled : goal.returns-clause-settled
returns-clause-settled c = λ h bodies r keeps reached. reached_settled h keeps bodies r reached
