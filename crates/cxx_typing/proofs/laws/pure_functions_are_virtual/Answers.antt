use Rattle.cxx_typing.proofs.PureFunctions.{pure_are_virtual}
use Rattle.cxx_typing.proofs.laws.pure_functions_are_virtual.Goals as goal

pub returns : goal.returns
returns c = pure_are_virtual
