use Rattle.std.proofs.Common.{true}
use Rattle.path_events.specs.declared.frame.Stage.TheVariants.{Bases}
use Rattle.path_events.specs.invariants.Steps.{IsSameLeft}
use Rattle.path_events.proofs.built.built_bases.Given as goal

abbrev pub invariant-loop-place : goal.invariant-loop-place
invariant-loop-place l = IsSameLeft l.course.h.now l.course.index.now true l.course.frame (Bases l.i) (Bases l.place)
