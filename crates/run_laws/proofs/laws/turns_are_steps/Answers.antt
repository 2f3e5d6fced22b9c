use Rattle.run_laws.proofs.Counting.{turns_law, run_law, execution_law}
use Rattle.run_laws.proofs.laws.turns_are_steps.Goals as goal

pub returns-clause-turns : goal.returns-clause-turns
returns-clause-turns c = turns_law

pub returns-clause-run : goal.returns-clause-run
returns-clause-run c = run_law

pub returns-clause-execution : goal.returns-clause-execution
returns-clause-execution c = execution_law
