-- Each law is a lemma.
use Rattle.agree_events.proofs.Planned.{planned_step, planned_body}
use Rattle.agree_events.proofs.laws.parts_go_on.Goals as goal

pub returns-clause-event : goal.returns-clause-event
returns-clause-event c = planned_step

pub returns-clause-body : goal.returns-clause-body
returns-clause-body c = planned_body
