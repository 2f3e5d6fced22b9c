use Rattle.path_places.proofs.Holding.{shared_early, shared_next, shared_all}
use Rattle.path_places.proofs.kids.shared_kid.Goals as goal

pub returns-then-n-as_base : goal.returns-then-n-as_base
returns-then-n-as_base c = shared_early c.args.world.now.h.now c.args.c c.args.n c.as_base.result (c.as_base.ensures c.args.world.now.h.now c.requires.world.are_numbers) c.if-n-as_base.true

pub loop-v-preserved : goal.loop-v-preserved
loop-v-preserved c = shared_next c.args.world.now.h.now c.args.c c.args.n c.loop-v.v c.loop-v.invariant c.in-None.ensures

pub returns : goal.returns
returns c = shared_all c.args.world.now.h.now c.keeps.ensures c.args.c c.args.n c.loop-v.v c.loop-v-test.false c.loop-v.invariant
