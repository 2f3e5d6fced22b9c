-- Each clause is a lemma.
use Rattle.code_laws.proofs.StatementOps.{statement_may, block_may}
use Rattle.code_laws.proofs.laws.statements_have_their_ops.Goals as goal

pub returns-clause-ops : goal.returns-clause-ops
returns-clause-ops c = statement_may

pub returns-clause-code : goal.returns-clause-code
returns-clause-code c = block_may
