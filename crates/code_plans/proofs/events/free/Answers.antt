use Rattle.std.proofs.Common.{arith}
use Rattle.code_plans.proofs.Known.{few_locals}
use Rattle.code_plans.proofs.events.free.Goals as goal

pub overflow_cast-result : goal.overflow_cast-result
overflow_cast-result g c = let few = few_locals c.args.site.now.program.now c.requires.few c.owner_of.result _ c.body-body.ensures in let count = c.local_count.ensures in omega arith

pub overflow_add-result : goal.overflow_add-result
overflow_add-result g c = let few = few_locals c.args.site.now.program.now c.requires.few c.owner_of.result _ c.body-body.ensures in let count = c.local_count.ensures in omega arith

pub returns-clause-small : goal.returns-clause-small
returns-clause-small g c = let few = few_locals c.args.site.now.program.now c.requires.few c.owner_of.result _ c.body-body.ensures in let count = c.local_count.ensures in omega arith
