use Rattle.std.proofs.Common.{true}
use Rattle.path_events.specs.declared.frame.Stage.TheVariants.{Members}
use Rattle.path_events.specs.invariants.Steps.{IsSameLeft}
use Rattle.path_events.proofs.built.built_members.Given as goal

abbrev pub invariant-loop-place : goal.invariant-loop-place
invariant-loop-place l = IsSameLeft l.course.h.now l.course.index.now true l.course.frame (Members l.m l.i) (Members l.place l.element)
