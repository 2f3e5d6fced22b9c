-- The law is a lemma.
use Rattle.agree_events.proofs.Turns.{event_happens}
use Rattle.agree_events.proofs.laws.events_keep_the_columns.Goals as goal

pub returns : goal.returns
returns c = event_happens
