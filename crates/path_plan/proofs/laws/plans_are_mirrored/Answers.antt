use Rattle.std.proofs.Common.{◌+◌, sym}
use Rattle.path_plan.proofs.Mirror.{mirror_law}
use Rattle.path_plan.proofs.laws.plans_are_mirrored.Goals as goal

pub returns : goal.returns
returns c = λ h bodies form d p. sym (mirror_law h bodies (d.0 + 1) form d p)
