use Rattle.path_model.proofs.RunLaws.{runs_alike}
use Rattle.path_model.proofs.laws_of_runs.sizes_decide_the_heap_alone.Goals as goal

pub returns : goal.returns
returns c = λ h sizes other program n a b. runs_alike h sizes other program n a b
