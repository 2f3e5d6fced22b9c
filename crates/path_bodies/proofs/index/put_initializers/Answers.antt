use Rattle.path_bodies.specs.Places.{place_by_key}
use Rattle.path_bodies.proofs.Firsts.{inits_next}
use Rattle.path_bodies.proofs.index.put_initializers.Goals as goal

pub loop-place-preserved : goal.loop-place-preserved
loop-place-preserved c = inits_next (place_by_key c.args.table.now) (place_by_key c.loop-place.table) (place_by_key c.put_first.new.self) c.args.c c.args.inits.now c.loop-place.place c.index-inits-place.result c.key_of.result c.key_of.ensures c.loop-place-test.true c.index-inits-place.is c.in_ok-put_first.ensures c.loop-place.invariant
