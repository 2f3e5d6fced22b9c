use Rattle.agree_runs.proofs.Dumps.{dumps_are_of_the_state}
use Rattle.agree_runs.proofs.laws.dumps_are_of_the_state.Goals as goal

pub returns : goal.returns
returns c = dumps_are_of_the_state
