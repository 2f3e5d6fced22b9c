use Rattle.path_model.proofs.RunLaws.{run_bounded, out_of_steps}
use Rattle.path_model.proofs.laws_of_runs.steps_are_counted.Goals as goal

pub returns-clause-most : goal.returns-clause-most
returns-clause-most c = λ h sizes program n. run_bounded h sizes program n

pub returns-clause-all : goal.returns-clause-all
returns-clause-all c = λ h sizes program n. out_of_steps h sizes program n
