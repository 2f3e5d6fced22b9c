use Rattle.foundation.proofs.Members.{has_from_contains}
use Rattle.path_plan.specs.Phases.{Body}
use Rattle.path_model.specs.States.{InPlan}
use Rattle.path_model.specs.Runs.{state_at}
use Rattle.path_model.proofs.KeptSteps.{state_kept}
use Rattle.path_model.proofs.KeptLaws.{some_event, no_body_first, body_there, plan_once}
use Rattle.path_model.proofs.laws_of_states.plans_go_on.Goals as goal

pub returns-clause-some_event : goal.returns-clause-some_event
returns-clause-some_event c = λ h sizes program n f has is. let s = state_at h sizes program n in some_event h program s.objects s.frames (state_kept h sizes program n) f (has_from_contains s.frames (InPlan f) has) is

pub returns-clause-no_body_first : goal.returns-clause-no_body_first
returns-clause-no_body_first c = λ h sizes program n f p es has is. let s = state_at h sizes program n in no_body_first h program s.objects s.frames (state_kept h sizes program n) f p es (has_from_contains s.frames (InPlan f) has) is

pub returns-clause-body_there : goal.returns-clause-body_there
returns-clause-body_there c = λ h sizes program n f p has event. let s = state_at h sizes program n in body_there h program s.objects s.frames (state_kept h sizes program n) f p (has_from_contains s.frames (InPlan f) has) (has_from_contains f.events (Body p) event)

pub returns-clause-once : goal.returns-clause-once
returns-clause-once c = λ h sizes program n i j f g keeps at_f at_g same. let s = state_at h sizes program n in plan_once h keeps program s.objects s.frames (state_kept h sizes program n) i j f g at_f at_g same
