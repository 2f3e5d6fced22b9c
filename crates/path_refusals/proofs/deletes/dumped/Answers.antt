use Rattle.std.proofs.Common.{◌∙◌, true, false}
use Rattle.path_refusals.proofs.Owning.{dump_closed, dump_open}
use Rattle.path_refusals.proofs.deletes.dumped.Goals as goal

pub returns-then-is_closed : goal.returns-then-is_closed
returns-then-is_closed c = λ h s p stands q. dump_closed h s p (c.is_closed.ensures h s p stands q ∙ c.if-is_closed.true)

pub returns-then-is_incomplete : goal.returns-then-is_incomplete
returns-then-is_incomplete c = λ h s p stands q. dump_open h s p true (c.is_closed.ensures h s p stands q ∙ c.if-is_closed.false) (c.is_incomplete.ensures h s p stands q ∙ c.if-is_incomplete.true)

pub returns-else-is_incomplete : goal.returns-else-is_incomplete
returns-else-is_incomplete c = λ h s p stands q. dump_open h s p false (c.is_closed.ensures h s p stands q ∙ c.if-is_closed.false) (c.is_incomplete.ensures h s p stands q ∙ c.if-is_incomplete.false)
