use Rattle.std.proofs.Common.{refl}
use Rattle.path_plan.specs.Plans.{build, unbuild}
use Rattle.path_plan.proofs.laws.worked_plans.Goals as goal

pub returns-clause-diamond_construction : goal.returns-clause-diamond_construction
unfolding build
returns-clause-diamond_construction c = refl

pub returns-clause-diamond_destruction : goal.returns-clause-diamond_destruction
unfolding unbuild
returns-clause-diamond_destruction c = refl

pub returns-clause-array_construction : goal.returns-clause-array_construction
unfolding build
returns-clause-array_construction c = refl

pub returns-clause-array_destruction : goal.returns-clause-array_destruction
unfolding unbuild
returns-clause-array_destruction c = refl
