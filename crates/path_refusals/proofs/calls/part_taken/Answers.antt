use Rattle.std.proofs.Common.{◌∙◌, sym, true, false}
use Rattle.path_refusals.proofs.Calling.{take_is}
use Rattle.path_refusals.proofs.calls.part_taken.Goals as goal

pub returns-then-branch-clause-is : goal.returns-then-branch-clause-is
returns-then-branch-clause-is c = λ s p stands q begun callable. sym (take_is c.args.moment.now.world.h.now s p c.args.f true (sym (c.in_ok-is_pure.ensures.is s p (record { heap_stands = stands; points = q; begun = begun }) callable) ∙ c.if-branch.true))

pub returns-else-branch-clause-is : goal.returns-else-branch-clause-is
returns-else-branch-clause-is c = λ s p stands q begun callable. sym (take_is c.args.moment.now.world.h.now s p c.args.f false (sym (c.in_ok-is_pure.ensures.is s p (record { heap_stands = stands; points = q; begun = begun }) callable) ∙ c.if-branch.false))
