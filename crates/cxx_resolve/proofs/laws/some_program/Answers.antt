use Rattle.cxx_resolve.proofs.SomeProgram.{some_program}
use Rattle.cxx_resolve.proofs.laws.some_program.Goals as goal

pub returns : goal.returns
returns c = some_program
