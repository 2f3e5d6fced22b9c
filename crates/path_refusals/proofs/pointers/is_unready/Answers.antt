use Rattle.std.proofs.Common.{◌∙◌, ap, sym, not}
use Rattle.path_plan.specs.Phases.{is_ready}
use Rattle.path_refusals.proofs.pointers.is_unready.Goals as goal

pub returns : goal.returns
returns c = λ h s p stands q. ap (λ x. not (is_ready x)) (c.phase.ensures h s p stands q) ∙ ap not (sym c.is_ready.ensures)
