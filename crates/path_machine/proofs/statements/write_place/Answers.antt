use Rattle.std.proofs.Common.{◌∙◌, rules, refl, ap}
use Rattle.path_model.specs.Values.{value_of_operand, argument_value}
use Rattle.path_model.specs.Places.{leaf_at}
use Rattle.path_model.specs.States.{sight, with_frames, with_objects, wanted_result}
use Rattle.path_model.specs.Effects.{leaf_set}
use Rattle.path_machine.specs.declared.frames.BodyFrame.{BodyFrame}
use Rattle.path_machine.specs.invariants.Steps.{size_in}
use Rattle.path_machine.proofs.Effecting.{scene_by, taken_heaped, write_agrees}
use Rattle.path_machine.proofs.statements.write_place.Goals as goal

-- src/statements.rt:60:1
pub returns : goal.returns
returns c = λ e s f below outs t clear.
    let h = c.args.run.now.world.h.now in
    let sizes = size_in c.args.run.now.sizes.now in
    let program = c.args.run.now.program.now in
    let see = sight s f in
    let scene = scene_by h sizes program c.args.machine.now c.args.frame s f below t _ (search rules) (ap (λ (x : BodyFrame). x.this) c.get-body.ensures) (c.as_slice-2.ensures.value ∙ ap (λ (x : BodyFrame). x.locals.items) c.get-body.ensures) in
    write_agrees h sizes program c.go_on.new.machine (with_frames s _) c.args.place.now (argument_value see c.args.x.now) (value_of_operand see c.args.place.now.pointer) outs (λ p names.
    let x = leaf_set s.objects (leaf_at p c.args.place.now) (argument_value see c.args.x.now) in
    c.in_ok-go_on.ensures h sizes program (with_objects s x) f below
    (taken_heaped h sizes program c.args.machine.now c.write.new.heap c.args.frame s f below x t (c.in_ok-write.ensures e see (wanted_result f) p scene clear.given.seen clear.given.typed clear.clear names) refl))
