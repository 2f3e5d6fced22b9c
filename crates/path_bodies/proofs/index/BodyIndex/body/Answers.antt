use Rattle.std.proofs.Common.{sym, ap, ◌∙◌}
use Rattle.cxx_program.specs.declared.program.Owner.TheVariants.{Function, Constructor, Destructor}
use Rattle.path_model.specs.States.{owned_body}
use Rattle.path_bodies.specs.Places.{place_by_key, is_of}
use Rattle.path_bodies.proofs.Asking.{item_told}
use Rattle.path_bodies.proofs.index.BodyIndex.body.Goals as goal

pub returns-in-Function : goal.returns-in-Function
returns-in-Function c =
    item_told (is_of (Function c.in-Function.f)) c.args.program.now.bodies c.as_slice.result.now (place_by_key c.args.self.now.functions) _ _ _ _ c.as_slice.ensures c.key_of.ensures (c.requires.functions c.in-Function.f) c.find.ensures c.item_at.ensures
    ∙ ap (owned_body c.args.program.now) (sym c.in-Function.is)

pub returns-in-Constructor : goal.returns-in-Constructor
returns-in-Constructor c =
    item_told (is_of (Constructor c.in-Constructor.c)) c.args.program.now.bodies c.as_slice-in-Constructor.result.now (place_by_key c.args.self.now.constructors) _ _ _ _ c.as_slice-in-Constructor.ensures c.key_of-in-Constructor.ensures (c.requires.constructors c.in-Constructor.c) c.find-in-Constructor.ensures c.item_at-in-Constructor.ensures
    ∙ ap (owned_body c.args.program.now) (sym c.in-Constructor.is)

pub returns-in-Destructor : goal.returns-in-Destructor
returns-in-Destructor c =
    item_told (is_of (Destructor c.in-Destructor.c)) c.args.program.now.bodies c.as_slice-in-Destructor.result.now (place_by_key c.args.self.now.destructors) _ _ _ _ c.as_slice-in-Destructor.ensures c.key_of-in-Destructor.ensures (c.requires.destructors c.in-Destructor.c) c.find-in-Destructor.ensures c.item_at-in-Destructor.ensures
    ∙ ap (owned_body c.args.program.now) (sym c.in-Destructor.is)
