use Rattle.cxx_lookup.proofs.Gathered.{AreGathered}
use Rattle.cxx_lookup.proofs.declarations.declarations.Given as goal

abbrev pub invariant-loop-s : goal.invariant-loop-s
invariant-loop-s l = AreGathered l.h l.fn.c l.name l.s-items l.s-index l.list.items
