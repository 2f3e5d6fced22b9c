use Rattle.std.proofs.Common.{◌∙◌, rules, refl, ap}
use Rattle.path_model.specs.Values.{value_of_operand}
use Rattle.path_model.specs.States.{sight, with_frames, with_objects, wanted_result}
use Rattle.path_model.specs.Effects.{copied}
use Rattle.path_machine.specs.declared.frames.BodyFrame.{BodyFrame}
use Rattle.path_machine.specs.invariants.Steps.{size_in}
use Rattle.path_machine.proofs.Effecting.{scene_by, taken_heaped, copy_agrees}
use Rattle.path_machine.proofs.statements.copy_object.Goals as goal

-- src/statements.rt:90:1
pub returns-clause-agrees : goal.returns-clause-agrees
returns-clause-agrees c = λ e s f below outs t clear.
    let h = c.args.run.now.world.h.now in
    let sizes = size_in c.args.run.now.sizes.now in
    let program = c.args.run.now.program.now in
    let see = sight s f in
    let scene = scene_by h sizes program c.args.machine.now c.args.frame s f below t _ (search rules) (ap (λ (x : BodyFrame). x.this) c.get-body.ensures) (c.as_slice-2.ensures.value ∙ ap (λ (x : BodyFrame). x.locals.items) c.get-body.ensures) in
    copy_agrees h sizes program c.go_on.new.machine (with_frames s _) c.args.class (value_of_operand see c.args.to.now) (value_of_operand see c.args.from.now) outs (λ p q names other.
    let x = copied h c.args.class p q s.objects in
    c.in_ok-go_on.ensures h sizes program (with_objects s x) f below
    (taken_heaped h sizes program c.args.machine.now c.copy.new.heap c.args.frame s f below x t (c.in_ok-copy.ensures.copies e see (wanted_result f) p q scene clear.given.seen clear.given.typed clear.clear names other) refl))
