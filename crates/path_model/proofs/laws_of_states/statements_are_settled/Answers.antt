use Rattle.path_model.specs.Runs.{state_at}
use Rattle.path_model.proofs.KeptSteps.{state_kept}
use Rattle.path_model.proofs.KeptLaws.{statement_settled}
use Rattle.path_model.proofs.laws_of_states.statements_are_settled.Goals as goal

pub returns : goal.returns
returns c = λ h sizes program n f below keeps top k d got. let s = state_at h sizes program n in statement_settled h keeps program s.objects s.frames (state_kept h sizes program n) f below k d top got
