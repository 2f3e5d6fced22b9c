use Rattle.path_places.proofs.Holding.{shared_none, shared_rest_is}
use Rattle.path_places.proofs.kids.shared_rest.Goals as goal

pub returns-in-None : goal.returns-in-None
returns-in-None c = shared_none c.args.world.now.h.now c.keeps.ensures c.args.c c.args.v c.args.n (c.in-None.ensures c.args.world.now.h.now c.keeps.ensures c.requires.world.are_numbers)

pub returns-in-Some : goal.returns-in-Some
returns-in-Some c = shared_rest_is c.args.world.now.h.now c.keeps.ensures c.args.c c.args.v c.args.n c.in-Some.offset c.as_base.result
    (c.in-Some.ensures c.args.world.now.h.now c.keeps.ensures c.requires.world.are_numbers) (c.as_base.ensures c.args.world.now.h.now c.requires.world.are_numbers) c.rest_of.result c.rest_of.ensures
