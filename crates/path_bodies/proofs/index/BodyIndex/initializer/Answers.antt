use Rattle.std.proofs.Common.{sym, ap, ◌∙◌}
use Rattle.cxx_program.specs.declared.program.Owner.TheVariants.{Constructor}
use Rattle.std.specs.Prelude.{option_copied}
use Rattle.path_model.specs.States.{inits_in, owned_body}
use Rattle.path_bodies.specs.Places.{place_by_key, sets}
use Rattle.path_bodies.proofs.Asking.{item_told}
use Rattle.path_bodies.proofs.index.BodyIndex.initializer.Goals as goal

pub returns-in-Some : goal.returns-in-Some
returns-in-Some c =
    item_told (sets c.args.m) (inits_in (owned_body c.args.program.now (Constructor c.args.c))) c.as_slice.result.now (place_by_key c.args.self.now.inits) _ _ _ _ (c.as_slice.ensures ∙ (ap (λ o. inits_in (option_copied o)) (sym c.in-Some.is) ∙ ap inits_in c.body.ensures)) c.key_of.ensures (c.requires.inits c.args.c c.args.m) c.find.ensures c.item_at.ensures
