use Rattle.path_model.proofs.RunLaws.{run_on}
use Rattle.path_model.proofs.laws_of_runs.runs_go_on.Goals as goal

pub returns : goal.returns
returns c = λ h sizes program n m running. run_on h sizes program n m running
