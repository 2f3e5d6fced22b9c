use Rattle.std.proofs.Common.{sym}
use Rattle.path_columns.specs.Pages.{number_at}
use Rattle.path_columns.proofs.Placing.{placed_none}
use Rattle.path_columns.proofs.slots.Slots.new.Goals as goal

pub invariant_of-result-clause-counted : goal.invariant_of-result-clause-counted
invariant_of-result-clause-counted g c = sym (placed_none (number_at c.new.result) 68719476736 c.new.ensures)
