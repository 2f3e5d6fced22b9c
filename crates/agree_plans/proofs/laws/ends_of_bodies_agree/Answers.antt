-- Each law is a lemma.
use Rattle.agree_plans.proofs.BodyTurns.{constructor_turn, destructor_turn}
use Rattle.agree_plans.proofs.laws.ends_of_bodies_agree.Goals as goal

pub returns-clause-constructor : goal.returns-clause-constructor
returns-clause-constructor c = constructor_turn

pub returns-clause-destructor : goal.returns-clause-destructor
returns-clause-destructor c = destructor_turn
