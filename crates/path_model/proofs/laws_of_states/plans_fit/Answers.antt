use Rattle.foundation.proofs.Members.{has_from_contains}
use Rattle.path_model.specs.States.{InPlan}
use Rattle.path_model.specs.Runs.{state_at}
use Rattle.path_model.proofs.KeptSteps.{state_kept}
use Rattle.path_model.proofs.KeptLaws.{next_fits, behind_body_fits, plan_made, plan_inside}
use Rattle.path_model.proofs.laws_of_states.plans_fit.Goals as goal

pub returns-clause-next : goal.returns-clause-next
returns-clause-next c = λ h sizes program n f e es below keeps top is. let s = state_at h sizes program n in next_fits h keeps program s.objects s.frames (state_kept h sizes program n) f e es below top is

pub returns-clause-behind_body : goal.returns-clause-behind_body
returns-clause-behind_body c = λ h sizes program n g f e es below keeps top is. let s = state_at h sizes program n in behind_body_fits h keeps program s.objects s.frames (state_kept h sizes program n) g f e es below top is

pub returns-clause-made : goal.returns-clause-made
returns-clause-made c = λ h sizes program n f keeps has. let s = state_at h sizes program n in plan_made h keeps program s.objects s.frames (state_kept h sizes program n) f (has_from_contains s.frames (InPlan f) has)

pub returns-clause-inside : goal.returns-clause-inside
returns-clause-inside c = λ h sizes program n f e keeps has event. let s = state_at h sizes program n in plan_inside h keeps program s.objects s.frames (state_kept h sizes program n) f e (has_from_contains s.frames (InPlan f) has) (has_from_contains f.events e event)
