use Rattle.std.proofs.Common.{refl}
use Rattle.cxx_readings.proofs.SameStatements.{body_same}
use Rattle.cxx_readings.proofs.one_laws.one_body.Goals as goal

pub returns : goal.returns
returns c = λ text a b ts r s h g. body_same refl h g
