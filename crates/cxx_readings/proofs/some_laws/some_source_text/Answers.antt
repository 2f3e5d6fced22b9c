use Rattle.cxx_readings.proofs.Runs.{some_source}
use Rattle.cxx_readings.proofs.some_laws.some_source_text.Goals as goal

pub returns : goal.returns
returns c = some_source
