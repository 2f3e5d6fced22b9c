use Rattle.std.proofs.Common.{get_or, []}
use Rattle.cxx_overrider.specs.invariants.Within.{ListsMarked}
use Rattle.cxx_overrider.proofs.within.numbers_marked.Given as goal

-- the list is made up to the number
abbrev pub invariant-loop-n : goal.invariant-loop-n
invariant-loop-n l = ListsMarked (get_or l.rows l.fn.c.0 []) l.n l.list
