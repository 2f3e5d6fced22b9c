use Rattle.abi_layout.proofs.rules.HoldingLemmas.{AreFirst}
use Rattle.abi_layout.proofs.holding.holders.Given as goal

-- the holders among the subobjects so far
abbrev pub invariant-loop-n : goal.invariant-loop-n
invariant-loop-n l = AreFirst l.primaries l.list l.count l.n l.holders.items
