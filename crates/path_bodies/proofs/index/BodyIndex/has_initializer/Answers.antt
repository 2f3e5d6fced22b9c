use Rattle.cxx_program.specs.declared.program.Owner.TheVariants.{Constructor}
use Rattle.std.specs.Prelude.{find}
use Rattle.path_model.specs.States.{inits_in}
use Rattle.path_bodies.specs.Places.{place_by_key, is_of, sets}
use Rattle.path_bodies.proofs.Asking.{init_told}
use Rattle.path_bodies.proofs.index.BodyIndex.has_initializer.Goals as goal

pub returns : goal.returns
returns c = λ program is.
    init_told (sets c.args.m) (inits_in (find (is_of (Constructor c.args.c)) program.bodies)) (place_by_key c.args.self.now.inits) _ _ _ _ c.key_of.ensures (is.inits c.args.c c.args.m) c.find.ensures c.is_some.ensures
