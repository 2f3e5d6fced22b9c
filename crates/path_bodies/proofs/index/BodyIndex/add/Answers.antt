use Rattle.std.proofs.Common.{refl}
use Rattle.path_bodies.specs.Places.{place_by_key}
use Rattle.path_bodies.proofs.Firsts.{keyed}
use Rattle.path_bodies.proofs.Adding.{added_main, added_function, added_destructor}
use Rattle.path_bodies.proofs.index.BodyIndex.add.Goals as goal

pub returns-in-Main-clause-bodies : goal.returns-in-Main-clause-bodies
returns-in-Main-clause-bodies c = λ bodies held place. added_main bodies c.args.body.now c.args.self.now c.in-Main.is held

pub returns-in_ok-put_first-in-Function-clause-bodies : goal.returns-in_ok-put_first-in-Function-clause-bodies
returns-in_ok-put_first-in-Function-clause-bodies c = λ bodies held place.
    added_function bodies c.args.body.now c.args.self.now _ c.in-Function.f c.args.place c.in-Function.is held place
    (keyed (place_by_key c.args.self.now.functions) (place_by_key c.put_first.new.self) c.args.place _ _ c.key_of.ensures c.in_ok-put_first-in-Function.ensures) refl refl refl

pub returns-in_ok-put_first-in-Destructor-clause-bodies : goal.returns-in_ok-put_first-in-Destructor-clause-bodies
returns-in_ok-put_first-in-Destructor-clause-bodies c = λ bodies held place.
    added_destructor bodies c.args.body.now c.args.self.now _ c.in-Destructor.c c.args.place c.in-Destructor.is held place
    (keyed (place_by_key c.args.self.now.destructors) (place_by_key c.put_first-in-Destructor.new.self) c.args.place _ _ c.key_of-in-Destructor.ensures c.in_ok-put_first-in-Destructor.ensures) refl refl refl
