use Rattle.cxx_readings.proofs.Owners.{source_bodies}
use Rattle.cxx_readings.proofs.some_laws.bodies_of_records.Goals as goal

pub returns : goal.returns
returns c = source_bodies
