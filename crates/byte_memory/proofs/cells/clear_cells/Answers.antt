use Rattle.std.proofs.lemmas.List.{length-set}
use Rattle.std.proofs.Common.{◌∙◌, arith, refl}
use Rattle.byte_memory.proofs.CellBits.{cleared-more, cleared-none}
use Rattle.byte_memory.proofs.cells.clear_cells.Goals as goal

pub loop-i-preserved : goal.loop-i-preserved
loop-i-preserved c = record { cleared = cleared-more _ _ _ _ (omega arith) c.loop-i.invariant.cleared; len = length-set _ _ _ ∙ c.loop-i.invariant.len }

pub loop-i-init : goal.loop-i-init
loop-i-init c = record { cleared = cleared-none _ _; len = refl }
