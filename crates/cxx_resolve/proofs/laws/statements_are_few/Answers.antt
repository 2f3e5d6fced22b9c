use Rattle.cxx_resolve.proofs.Counted.{statements_are_few}
use Rattle.cxx_resolve.proofs.laws.statements_are_few.Goals as goal

pub returns : goal.returns
returns c = statements_are_few
