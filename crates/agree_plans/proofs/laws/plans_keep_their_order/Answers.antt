-- The law is a lemma.
use Rattle.agree_plans.proofs.Orders.{runs_in_order}
use Rattle.agree_plans.proofs.laws.plans_keep_their_order.Goals as goal

pub returns : goal.returns
returns c = runs_in_order
