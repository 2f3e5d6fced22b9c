use Rattle.path_model.specs.Runs.{state_at}
use Rattle.path_model.proofs.KeptSteps.{state_kept}
use Rattle.path_model.proofs.KeptLaws.{constructor_on_plan, destructor_on_plan}
use Rattle.path_model.proofs.laws_of_states.bodies_stand_on_plans.Goals as goal

pub returns-clause-constructor : goal.returns-clause-constructor
returns-clause-constructor c = λ h sizes program n g d below owns top owner. let s = state_at h sizes program n in constructor_on_plan h program s.objects s.frames (state_kept h sizes program n) owns g d below top owner

pub returns-clause-destructor : goal.returns-clause-destructor
returns-clause-destructor c = λ h sizes program n g d below owns top owner. let s = state_at h sizes program n in destructor_on_plan h program s.objects s.frames (state_kept h sizes program n) owns g d below top owner
