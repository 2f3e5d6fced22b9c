-- Each law is a lemma.
use Rattle.agree_events.proofs.Bodies.{constructor_left, destructor_left, deleting_left, body_once}
use Rattle.agree_events.proofs.laws.bodies_run_between.Goals as goal

pub returns-clause-constructor : goal.returns-clause-constructor
returns-clause-constructor c = constructor_left

pub returns-clause-destructor : goal.returns-clause-destructor
returns-clause-destructor c = destructor_left

pub returns-clause-deleting : goal.returns-clause-deleting
returns-clause-deleting c = deleting_left

pub returns-clause-once : goal.returns-clause-once
returns-clause-once c = body_once
