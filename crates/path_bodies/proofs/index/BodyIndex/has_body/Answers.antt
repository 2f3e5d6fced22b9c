use Rattle.std.proofs.Common.{sym, ap, ◌∙◌}
use Rattle.cxx_program.specs.declared.program.Owner.{Owner}
use Rattle.cxx_program.specs.declared.program.Owner.TheVariants.{Function, Constructor, Destructor}
use Rattle.path_model.specs.States.{owned_body, is_body}
use Rattle.path_bodies.specs.Places.{place_by_key, is_of}
use Rattle.path_bodies.proofs.Asking.{body_told}
use Rattle.path_bodies.proofs.index.BodyIndex.has_body.Goals as goal

pub returns-in-Function : goal.returns-in-Function
returns-in-Function c = λ program is.
    body_told (is_of (Function c.in-Function.f)) program.bodies (place_by_key c.args.self.now.functions) _ _ _ _ c.key_of.ensures (is.functions c.in-Function.f) c.find.ensures c.is_some.ensures
    ∙ ap (λ (o : Owner). is_body (owned_body program o)) (sym c.in-Function.is)

pub returns-in-Constructor : goal.returns-in-Constructor
returns-in-Constructor c = λ program is.
    body_told (is_of (Constructor c.in-Constructor.c)) program.bodies (place_by_key c.args.self.now.constructors) _ _ _ _ c.key_of-in-Constructor.ensures (is.constructors c.in-Constructor.c) c.find-in-Constructor.ensures c.is_some-in-Constructor.ensures
    ∙ ap (λ (o : Owner). is_body (owned_body program o)) (sym c.in-Constructor.is)

pub returns-in-Destructor : goal.returns-in-Destructor
returns-in-Destructor c = λ program is.
    body_told (is_of (Destructor c.in-Destructor.c)) program.bodies (place_by_key c.args.self.now.destructors) _ _ _ _ c.key_of-in-Destructor.ensures (is.destructors c.in-Destructor.c) c.find-in-Destructor.ensures c.is_some-in-Destructor.ensures
    ∙ ap (λ (o : Owner). is_body (owned_body program o)) (sym c.in-Destructor.is)
