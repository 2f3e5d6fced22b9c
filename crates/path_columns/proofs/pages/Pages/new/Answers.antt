use Rattle.std.proofs.Common.{sym}
use Rattle.path_columns.proofs.Placing.{placed_none, nothing_at}
use Rattle.path_columns.proofs.pages.Pages.new.Goals as goal

pub invariant_of-result-clause-counted : goal.invariant_of-result-clause-counted
invariant_of-result-clause-counted c = sym (placed_none _ 2147483648 (nothing_at _ c.new.ensures.items))
