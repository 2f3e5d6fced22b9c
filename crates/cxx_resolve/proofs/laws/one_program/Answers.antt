use Rattle.cxx_resolve.proofs.OneProgram.{one_program}
use Rattle.cxx_resolve.proofs.laws.one_program.Goals as goal

pub returns : goal.returns
returns c = one_program
