use Rattle.std.proofs.Common.{sym}
use Rattle.abi_lower.proofs.PlanRuns.{behind_found, behind_sought}
use Rattle.abi_lower.proofs.plan_blocks.+behind_body.Goals as goal

pub returns-then-is_body_item : goal.returns-then-is_body_item
returns-then-is_body_item t c = λ plan is. behind_found c.args.items.now _ plan c.in-len1-up.len_at_least (sym c.if-is_body_item.ensures) is

pub returns-else-is_body_item : goal.returns-else-is_body_item
returns-else-is_body_item t c = λ plan is. behind_sought c.args.items.now c.behind_body.result.now _ plan c.in-len1-up.len_at_least (sym c.if-is_body_item.ensures) is c.behind_body.ensures
