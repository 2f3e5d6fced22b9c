-- Each law is a lemma.
use Rattle.agree_events.proofs.PlanBlocks.{plan_block, block_there}
use Rattle.agree_events.proofs.laws.plans_agree.Goals as goal

pub returns-clause-block : goal.returns-clause-block
returns-clause-block c = plan_block

pub returns-clause-there : goal.returns-clause-there
returns-clause-there c = block_there
