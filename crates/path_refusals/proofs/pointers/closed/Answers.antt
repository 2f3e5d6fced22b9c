use Rattle.std.proofs.Common.{◌∙◌, sym, true, false}
use Rattle.path_refusals.proofs.Reading.{read_is}
use Rattle.path_refusals.proofs.pointers.closed.Goals as goal

pub returns-then-is_closed : goal.returns-then-is_closed
returns-then-is_closed c = λ h s p stands q. sym (read_is h s p true (c.is_closed.ensures h s p stands q ∙ c.if-is_closed.true))

pub returns-else-is_closed : goal.returns-else-is_closed
returns-else-is_closed c = λ h s p stands q. sym (read_is h s p false (c.is_closed.ensures h s p stands q ∙ c.if-is_closed.false))
