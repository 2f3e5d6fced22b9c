use Rattle.cxx_subobject.proofs.WalkLemmas.{IsWalked}
use Rattle.cxx_subobject.proofs.listing.+visit.Given as goal

abbrev pub decreases-visit : goal.decreases-visit
decreases-visit l = l.c.0

-- the subobject itself and what the bases so far give, each once
abbrev pub invariant-loop-base : goal.invariant-loop-base
invariant-loop-base l = IsWalked l.h l.fn.c l.fn.s l.base-items l.base-index l.fn.found.items l.marks l.found.items
