use Rattle.std.proofs.Common.{Some, List, [], ◌∷◌, refl, ap, ◌∙◌}
use Rattle.std.specs.Prelude.{reverse, ◌++◌}
use Rattle.path_events.specs.declared.frame.Stage.{Stage}
use Rattle.path_plan.specs.declared.form.Form.TheVariants.{InFull}
use Rattle.path_events.specs.declared.frame.Pending.{Pending as Frame}
use Rattle.path_events.proofs.Advancing.{new_stands}
use Rattle.path_events.proofs.plan.Plan.new.Goals as goal

pub returns : goal.returns
returns c = λ program classes k listed part few.
    let frame : Frame = record { part = c.args.whole; form = InFull; stage = c.first_stage.result } in
    new_stands c.args.h.now c.keeps.ensures program classes k c.args.whole c.args.is_building _ listed part few refl (ap Some c.first_event.ensures)
    (ap reverse (c.in_ok-push.ensures.items ∙ ap (λ (l : List Frame). l ++ frame ∷ []) c.new-stack.ensures.items) ∙ ap (λ (s : Stage). record { part = c.args.whole; form = InFull; stage = s } ∷ []) c.first_stage.ensures)
