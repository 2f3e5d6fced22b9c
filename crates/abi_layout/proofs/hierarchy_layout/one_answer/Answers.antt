use Rattle.abi_layout.proofs.rules.OneLayoutStops.{laid_or_stopped, stop_is_one}
use Rattle.abi_layout.proofs.hierarchy_layout.one_answer.Goals as goal

pub returns-clause-stop : goal.returns-clause-stop
returns-clause-stop c = stop_is_one

pub returns-clause-apart : goal.returns-clause-apart
returns-clause-apart c = laid_or_stopped
