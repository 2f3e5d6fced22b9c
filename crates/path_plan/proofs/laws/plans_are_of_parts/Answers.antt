use Rattle.path_plan.proofs.Steps.{plan_is, unplan_is}
use Rattle.path_plan.proofs.laws.plans_are_of_parts.Goals as goal

pub returns-clause-construction : goal.returns-clause-construction
returns-clause-construction c = λ h bodies form d p keeps. plan_is h keeps bodies form d p

pub returns-clause-destruction : goal.returns-clause-destruction
returns-clause-destruction c = λ h bodies form d p keeps. unplan_is h keeps bodies form d p
