-- Each law is a lemma.
use Rattle.agree_events.proofs.BodyEnds.{in_plan_body, constructor_closes, destructor_closes}
use Rattle.agree_events.proofs.laws.bodies_of_plans_close.Goals as goal

pub returns-clause-body : goal.returns-clause-body
returns-clause-body c = in_plan_body

pub returns-clause-constructor : goal.returns-clause-constructor
returns-clause-constructor c = constructor_closes

pub returns-clause-destructor : goal.returns-clause-destructor
returns-clause-destructor c = destructor_closes
