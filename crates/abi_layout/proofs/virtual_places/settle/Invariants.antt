use Rattle.abi_layout.proofs.algorithm.SettledLemmas.{SettledFrom}
use Rattle.abi_layout.proofs.virtual_places.settle.Given as goal

-- the virtual bases of the greatest numbers, so far, lie where their holders do
abbrev pub invariant-loop-i : goal.invariant-loop-i
invariant-loop-i l = SettledFrom l.h l.rows l.list l.holders l.count l.i l.initial.table l.table
