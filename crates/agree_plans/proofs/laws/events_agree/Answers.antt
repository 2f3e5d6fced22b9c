-- The law is a lemma.
use Rattle.agree_plans.proofs.EventTurns.{event_turn}
use Rattle.agree_plans.proofs.laws.events_agree.Goals as goal

pub returns : goal.returns
returns c = event_turn
