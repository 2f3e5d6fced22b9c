use Rattle.std.proofs.Common.{◌≡◌, drop}
use Rattle.cxx_expression.specs.Places.{begun, steps_of}
use Rattle.cxx_expression.specs.invariants.Known.{Knows}
use Rattle.cxx_expression.proofs.places.steps_of.Given as goal

-- what is left, behind what is reached so far, makes the whole
abbrev pub invariant-loop-part : goal.invariant-loop-part
invariant-loop-part l = record {
  typed : (steps_of l.site.h.now l.site.at l.reached (drop l.part-index l.parts)).typed ≡ (steps_of l.site.h.now l.site.at (begun l.fn.class) l.parts).typed;
  faults : (steps_of l.site.h.now l.site.at l.reached (drop l.part-index l.parts)).faults l.faults ≡ (steps_of l.site.h.now l.site.at (begun l.fn.class) l.parts).faults l.fn.faults;
  knows : Knows l.site.h.now l.known;
}
