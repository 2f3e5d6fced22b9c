use Rattle.std.proofs.Common.{refl, ap, subst, sym, ◌∙◌}
use Rattle.path_model.specs.States.{InBody, at_statement, with_frames}
use Rattle.path_machine.specs.declared.frames.BodyFrame.{BodyFrame}
use Rattle.path_machine.specs.Frames.{BodyStands}
use Rattle.path_machine.proofs.effects.go_on.Goals as goal

-- src/effects.rt:23:1
pub returns : goal.returns
returns c = λ h sizes program s f below t. c.in_ok-push.ensures h sizes program (with_frames s below) (InBody (at_statement f c.args.next)) t.machine_stands
    (subst (λ (x : BodyFrame). BodyStands h s.objects.classes x (at_statement f c.args.next)) (sym c.go_to.ensures) (record { same_owner = t.body_stands.same_owner; this_means = t.body_stands.this_means; locals_mean = t.body_stands.locals_mean; same_next = refl; same_found = t.body_stands.same_found; same_target = t.body_stands.same_target; plain_main = t.body_stands.plain_main }))
    (ap (λ (x : BodyFrame). x.depth) c.go_to.ensures ∙ t.counts)
