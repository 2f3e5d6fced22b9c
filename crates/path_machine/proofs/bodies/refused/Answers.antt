use Rattle.std.proofs.Common.{sym, ap, ◌∙◌, subst}
use Rattle.path_model.specs.States.{sight, wanted_result, target_conversion}
use Rattle.path_machine.specs.declared.frames.BodyFrame.{BodyFrame}
use Rattle.path_machine.specs.Frames.{BodyStands}
use Rattle.path_machine.specs.invariants.Steps.{size_in}
use Rattle.path_machine.proofs.bodies.refused.Goals as goal

pub returns-clause-is : goal.returns-clause-is
returns-clause-is c = λ e s f below t given.
    let h = c.args.run.now.world.h.now in
    let sizes = size_in c.args.run.now.sizes.now in
    let program = c.args.run.now.program.now in
    let seen = subst (λ (x : BodyFrame). BodyStands h s.objects.classes x f) (sym c.get-body.ensures) t.body_stands in
    let scene = c.scene_of-scene.ensures h sizes program s f below t in
    c.in_ok-rule.ensures.is e (sight s f) (wanted_result f) scene given (sym seen.same_found) (ap target_conversion (sym seen.same_target) ∙ sym c.wanted_by-target.ensures)
