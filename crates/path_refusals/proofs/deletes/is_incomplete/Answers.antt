use Rattle.std.proofs.Common.{◌∙◌, ap, sym}
use Rattle.path_plan.specs.Phases.{is_complete}
use Rattle.path_plan.specs.Whole.{whole_part}
use Rattle.path_refusals.proofs.Owning.{incomplete_is, made_of}
use Rattle.path_refusals.proofs.deletes.is_incomplete.Goals as goal

pub returns : goal.returns
returns c = λ h s p stands q.
    let class = q.at.class in
    let listed = made_of h s c.args.n p q in
    incomplete_is s p class c.is_complete.result listed (ap is_complete (c.phase.ensures h s (whole_part p.object class) stands (c.heap_object.ensures h s p class stands q listed)) ∙ sym c.is_complete.ensures)
