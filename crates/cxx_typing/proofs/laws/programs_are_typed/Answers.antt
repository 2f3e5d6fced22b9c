use Rattle.cxx_typing.proofs.Programs.{programs_are_typed}
use Rattle.cxx_typing.proofs.laws.programs_are_typed.Goals as goal

pub returns : goal.returns
returns c = programs_are_typed c.statements_are_typed.ensures
