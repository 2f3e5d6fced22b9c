use Rattle.path_model.specs.Uses.{argument_uses}
use Rattle.path_refusals.proofs.Refused.{joined}
use Rattle.path_refusals.proofs.operands.two_arguments.Goals as goal

pub returns-clause-is : goal.returns-clause-is
returns-clause-is c = λ s stands. joined c.args.moment.now.world.h.now s.objects (argument_uses s c.args.a.now) (argument_uses s c.args.b.now) c.in_ok-left.left c.in_ok-right.right c.least.result c.least.ensures (c.in_ok-left.ensures.is s stands) (c.in_ok-right.ensures.is s stands)
