use Rattle.path_plan.proofs.Construction.{construction_builds}
use Rattle.path_plan.proofs.Destruction.{destruction_unbuilds}
use Rattle.path_plan.proofs.laws.plans_are_coherent.Goals as goal

pub returns-clause-built : goal.returns-clause-built
returns-clause-built c = λ h bodies k d s keeps new. construction_builds h keeps bodies k d s new

pub returns-clause-unbuilt : goal.returns-clause-unbuilt
returns-clause-unbuilt c = λ h bodies k d s keeps stands. destruction_unbuilds h keeps bodies k d s stands
