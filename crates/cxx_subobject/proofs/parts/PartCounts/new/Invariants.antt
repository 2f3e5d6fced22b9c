use Rattle.cxx_subobject.specs.invariants.Counts.{AreCounts}
use Rattle.cxx_subobject.proofs.parts.PartCounts.new.Given as goal

-- the classes so far were counted
abbrev pub invariant-loop-number : goal.invariant-loop-number
invariant-loop-number l = AreCounts l.h l.number l.counts
