use Rattle.std.proofs.Common.{◌∙◌, sym, true, false}
use Rattle.path_refusals.proofs.Reading.{guard_is}
use Rattle.path_refusals.proofs.pointers.unready.Goals as goal

pub returns-then-is_unready : goal.returns-then-is_unready
returns-then-is_unready c = λ h s p stands q. sym (guard_is h s p true (c.is_unready.ensures h s p stands q ∙ c.if-is_unready.true))

pub returns-else-is_unready : goal.returns-else-is_unready
returns-else-is_unready c = λ h s p stands q. sym (guard_is h s p false (c.is_unready.ensures h s p stands q ∙ c.if-is_unready.false))
