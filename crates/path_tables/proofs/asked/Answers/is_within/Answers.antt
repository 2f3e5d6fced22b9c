use Rattle.path_tables.proofs.Answering.{within_itself, within_whole}
use Rattle.path_tables.proofs.asked.Answers.is_within.Goals as goal

pub returns-then-x-y-clause-is : goal.returns-then-x-y-clause-is
returns-then-x-y-clause-is c = within_itself c.args.world.now.h.now c.keeps.ensures c.args.c c.args.x c.args.y c.if-x-y.true

pub returns-then-x-eq0-clause-is : goal.returns-then-x-eq0-clause-is
returns-then-x-eq0-clause-is c = within_whole c.args.world.now.h.now c.keeps.ensures c.args.c c.args.x c.args.y c.if-x-eq0.true
