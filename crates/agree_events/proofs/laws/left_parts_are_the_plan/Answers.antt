-- Each law is a lemma.
use Rattle.agree_events.proofs.Events.{plan_events, next_event, construction_events, destruction_events}
use Rattle.agree_events.proofs.laws.left_parts_are_the_plan.Goals as goal

pub returns-clause-part : goal.returns-clause-part
returns-clause-part c = plan_events

pub returns-clause-event : goal.returns-clause-event
returns-clause-event c = next_event

pub returns-clause-construction : goal.returns-clause-construction
returns-clause-construction c = construction_events

pub returns-clause-destruction : goal.returns-clause-destruction
returns-clause-destruction c = destruction_events
