use Rattle.std.proofs.Common.{false}
use Rattle.path_events.specs.declared.frame.Stage.TheVariants.{Members}
use Rattle.path_events.specs.invariants.Steps.{IsSameLeft}
use Rattle.path_events.proofs.ended.ended_members.Given as goal

abbrev pub invariant-loop-left : goal.invariant-loop-left
invariant-loop-left l = IsSameLeft l.course.h.now l.course.index.now false l.course.frame (Members l.m l.i) (Members l.left 0)

abbrev pub decreases-loop-left : goal.decreases-loop-left
decreases-loop-left l = l.left
