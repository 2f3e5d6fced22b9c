use Rattle.path_plan.proofs.Valid.{whole_has_part, whole_part_has}
use Rattle.path_plan.proofs.laws.parts_lie_in_the_whole.Goals as goal

pub returns-clause-within : goal.returns-clause-within
returns-clause-within c = λ h k d q ob part. whole_has_part h k d q ob part

pub returns-clause-parts : goal.returns-clause-parts
returns-clause-parts c = λ h k d q inside. whole_part_has h k d q inside
