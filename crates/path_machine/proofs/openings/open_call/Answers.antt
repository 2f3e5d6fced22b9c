use Rattle.std.proofs.Common.{◌-◌, ◌++◌, ◌∷◌, [], None, Some, length, map, refl, ap, subst, sym, ◌∙◌}
use Rattle.std.specs.Prelude.{replicate}
use Rattle.std.specs.List.{AllZip}
use Rattle.cxx_overrider.specs.Functions.{return_of}
use Rattle.cxx_program.specs.declared.program.Owner.TheVariants.{Function}
use Rattle.path_model.specs.declared.outs.Out.TheVariants.{Call as CallOut}
use Rattle.path_model.specs.Values.{Unset, argument_value}
use Rattle.path_model.specs.Outs.{location_of}
use Rattle.path_model.specs.Uses.{receiver_value}
use Rattle.path_model.specs.States.{owned_body, sight}
use Rattle.path_model.specs.Effects.{runs, result_conversion}
use Rattle.path_heap.specs.declared.state.Value.TheVariants.{Pointer}
use Rattle.path_heap.specs.Stands.{Means}
use Rattle.path_values.specs.Views.{RunsByView}
use Rattle.path_machine.specs.Frames.{target_of_code}
use Rattle.path_machine.specs.declared.frames.BodyFrame.{BodyFrame}
use Rattle.path_machine.specs.Tellings.{TellsMore}
use Rattle.path_machine.proofs.Opening.{through, nothing_runs, something_runs, bodiless, enters, not_main}
use Rattle.path_machine.proofs.openings.open_call.Goals as goal

-- src/openings.rt:90:9
pub returns-in_default-clause-opens : goal.returns-in_default-clause-opens
returns-in_default-clause-opens c = λ e s f frames scene calling.
    let h = c.args.run.now.world.h.now in
    let program = c.args.run.now.program.now in
    let see = sight s f in
    let call = c.args.call.now in
    let values = map (argument_value see) call.arguments in
    through h program s frames c.args.outs.now c.args.outs.now values call (target_of_code c.args.target) None (receiver_value see call) (λ p names.
    nothing_runs h program s frames c.args.outs.now c.args.outs.now values call (target_of_code c.args.target) (runs h s.objects call p)
    (subst (λ x. RunsByView h s.objects.classes x (runs h s.objects call p)) c.in_default.is
    (c.in_ok-found.ensures.is e see calling.function p scene calling.seen calling.typed calling.clear names)))

-- src/openings.rt:93:9
pub returns-in_default-body-clause-opens : goal.returns-in_default-body-clause-opens
returns-in_default-body-clause-opens c = λ e s f frames scene calling.
    let h = c.args.run.now.world.h.now in
    let program = c.args.run.now.program.now in
    let see = sight s f in
    let call = c.args.call.now in
    let values = map (argument_value see) call.arguments in
    let found = c.in-Some.found in
    through h program s frames c.args.outs.now c.args.outs.now values call (target_of_code c.args.target) None (receiver_value see call) (λ p names.
    something_runs h program s frames c.args.outs.now c.args.outs.now values call (target_of_code c.args.target) None found (runs h s.objects call p)
    (subst (λ x. RunsByView h s.objects.classes x (runs h s.objects call p)) c.in-Some.is
    (c.in_ok-found.ensures.is e see calling.function p scene calling.seen calling.typed calling.clear names))
    (λ r points same. bodiless h program s frames c.args.outs.now c.args.outs.now values call (target_of_code c.args.target) None r (ap (λ g. owned_body program (Function g)) (sym same) ∙ sym c.in_default-body.ensures)))

-- src/openings.rt:73:1
pub returns-clause-opens : goal.returns-clause-opens
returns-clause-opens c = λ e s f frames scene calling.
    let h = c.args.run.now.world.h.now in
    let program = c.args.run.now.program.now in
    let see = sight s f in
    let call = c.args.call.now in
    let values = map (argument_value see) call.arguments in
    let found = c.in-Some.found in
    let body = c.in-Some-body.body.now in
    let code : BodyFrame = record { owner = body.owner; this = Pointer found.this; locals = c.in_ok-locals.locals; next = 0; found = c.in_ok-conversion.conversion; target = c.args.target; depth = c.args.depth } in
    through h program s frames c.args.outs.now c.tell_call.new.outs values call (target_of_code c.args.target) (Some code) (receiver_value see call) (λ p names.
    something_runs h program s frames c.args.outs.now c.tell_call.new.outs values call (target_of_code c.args.target) (Some code) found (runs h s.objects call p)
    (subst (λ x. RunsByView h s.objects.classes x (runs h s.objects call p)) c.in-Some.is
    (c.in_ok-found.ensures.is e see calling.function p scene calling.seen calling.typed calling.clear names))
    (λ r points same. enters h program c.requires.setup.typed s frames c.args.outs.now c.tell_call.new.outs values call (target_of_code c.args.target) code r body (ap (λ g. owned_body program (Function g)) (sym same) ∙ sym c.in-Some-body.ensures)
    (record {
      stands = record {
        same_owner = refl;
        this_means = points;
        locals_mean = subst (λ n. AllZip (Means h s.objects.classes) c.in_ok-locals.locals.items (values ++ replicate (n - length values) Unset)) c.len.ensures (c.in_ok-locals.ensures e see scene calling);
        same_next = refl;
        same_found = c.in_ok-conversion.ensures.is ∙ ap (λ g. result_conversion h (return_of h g) (return_of h call.function)) same;
        same_target = refl;
        plain_main = λ main. absurd (not_main h program c.requires.setup.typed r.1 body (ap (λ g. owned_body program (Function g)) (sym same) ∙ sym c.in-Some-body.ensures) main);
      };
      told = subst (λ g. TellsMore c.args.outs.now c.tell_call.new.outs (CallOut g (location_of s.objects r.0) ∷ [])) same (c.in_ok-tell_call.ensures s.objects r.0 scene.heap_stands points);
    })))
