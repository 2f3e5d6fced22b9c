-- Each law is a lemma.
use Rattle.agree_events.proofs.Firsts.{planned_first, planned_more}
use Rattle.agree_events.proofs.laws.first_parts_stand.Goals as goal

pub returns-clause-object : goal.returns-clause-object
returns-clause-object c = planned_first

pub returns-clause-more : goal.returns-clause-more
returns-clause-more c = planned_more
