use Rattle.cxx_lookup.specs.invariants.Searches.{found_at}
use Rattle.cxx_lookup.proofs.Highest.{IsBest}
use Rattle.cxx_lookup.proofs.member_lookup.highest.Given as goal

abbrev pub invariant-loop-number : goal.invariant-loop-number
invariant-loop-number l = IsBest l.h (found_at l.list l.hider) l.list l.number l.best
