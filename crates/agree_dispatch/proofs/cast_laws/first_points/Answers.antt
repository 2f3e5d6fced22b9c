use Rattle.agree_dispatch.proofs.FirstPoints.{first_point}
use Rattle.agree_dispatch.proofs.cast_laws.first_points.Goals as goal

pub returns : goal.returns
returns c = first_point
