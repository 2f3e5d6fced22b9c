use Rattle.std.proofs.Common.{take}
use Rattle.abi_foreign.specs.invariants.Sums.{AreSumsOf}
use Rattle.abi_foreign.proofs.sums.are_sums.Given as goal

-- the places so far are sums
abbrev pub invariant-loop-n : goal.invariant-loop-n
invariant-loop-n l = AreSumsOf l.h l.rows l.c (take l.n l.list) (take l.n l.places)
