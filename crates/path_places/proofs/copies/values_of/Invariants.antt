use Rattle.path_places.proofs.Moving.{ReadsTo}
use Rattle.path_places.proofs.copies.values_of.Given as goal

-- the values so far
abbrev pub invariant-loop-k : goal.invariant-loop-k
invariant-loop-k l = ReadsTo l.heap l.leaves l.values.items l.k-index
