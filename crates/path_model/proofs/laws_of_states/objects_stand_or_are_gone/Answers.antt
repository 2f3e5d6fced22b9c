use Rattle.foundation.proofs.Members.{contains_from_has, has_from_contains}
use Rattle.path_model.specs.States.{InPlan}
use Rattle.path_model.specs.Runs.{state_at}
use Rattle.path_model.proofs.KeptSteps.{state_kept}
use Rattle.path_model.proofs.KeptLaws.{closed_gone, open_stands, plan_open, ended_closed}
use Rattle.path_model.proofs.laws_of_states.objects_stand_or_are_gone.Goals as goal

pub returns-clause-gone : goal.returns-clause-gone
returns-clause-gone c = λ h sizes program n k d keeps got closed. let s = state_at h sizes program n in closed_gone h keeps program s.objects s.frames (state_kept h sizes program n) k d got closed

pub returns-clause-stands : goal.returns-clause-stands
returns-clause-stands c = λ h sizes program n k d keeps got opened free. let s = state_at h sizes program n in open_stands h keeps program s.objects s.frames (state_kept h sizes program n) k d got opened (λ f has same. free f (contains_from_has s.frames (InPlan f) has) same)

pub returns-clause-at_work : goal.returns-clause-at_work
returns-clause-at_work c = λ h sizes program n f keeps has. let s = state_at h sizes program n in plan_open h keeps program s.objects s.frames (state_kept h sizes program n) f (has_from_contains s.frames (InPlan f) has)

pub returns-clause-ended : goal.returns-clause-ended
returns-clause-ended c = λ h sizes program n k d keeps got ended. let s = state_at h sizes program n in ended_closed h keeps program s.objects s.frames (state_kept h sizes program n) k d got ended
