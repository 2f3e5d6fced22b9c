use Rattle.cxx_typing.proofs.Statements.{statements_are_typed}
use Rattle.cxx_typing.proofs.laws.statements_are_typed.Goals as goal

pub returns : goal.returns
returns c = statements_are_typed c.answered.ensures
