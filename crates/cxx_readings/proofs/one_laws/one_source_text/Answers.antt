use Rattle.cxx_readings.proofs.SameSources.{source_same}
use Rattle.cxx_readings.proofs.one_laws.one_source_text.Goals as goal

pub returns : goal.returns
returns c = source_same
