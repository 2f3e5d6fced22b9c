use Rattle.std.proofs.Common.{◌∙◌, sym}
use Rattle.path_refusals.proofs.Reading.{closed_is, open_is}
use Rattle.path_refusals.proofs.pointers.closed_or_unready.Goals as goal

pub returns-then-is_closed-clause-read : goal.returns-then-is_closed-clause-read
returns-then-is_closed-clause-read c = λ h s p stands q. sym (closed_is h s p (c.is_closed.ensures h s p stands q ∙ c.if-is_closed.true)).0

pub returns-then-is_closed-clause-arrow : goal.returns-then-is_closed-clause-arrow
returns-then-is_closed-clause-arrow c = λ h s p stands q. sym (closed_is h s p (c.is_closed.ensures h s p stands q ∙ c.if-is_closed.true)).1

pub returns-clause-read : goal.returns-clause-read
returns-clause-read c = λ h s p stands q. c.unready.ensures h s p stands q ∙ sym (open_is h s p (c.is_closed.ensures h s p stands q ∙ c.if-is_closed.false)).0

pub returns-clause-arrow : goal.returns-clause-arrow
returns-clause-arrow c = λ h s p stands q. c.unready.ensures h s p stands q ∙ sym (open_is h s p (c.is_closed.ensures h s p stands q ∙ c.if-is_closed.false)).1
