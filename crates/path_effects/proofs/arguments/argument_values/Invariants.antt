use Rattle.std.proofs.Common.{take}
use Rattle.path_effects.specs.invariants.Arguments.{AreRead}
use Rattle.path_effects.proofs.arguments.argument_values.Given as goal

abbrev pub invariant-loop-a : goal.invariant-loop-a
invariant-loop-a l = AreRead l.world.h.now l.heap l.scene l.list (take l.a-index l.list) l.values.items
