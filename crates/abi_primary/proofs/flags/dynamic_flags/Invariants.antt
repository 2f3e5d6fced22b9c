use Rattle.abi_primary.specs.Kinds.{TellDynamicTo}
use Rattle.abi_primary.proofs.flags.dynamic_flags.Given as goal

abbrev pub invariant-loop-n : goal.invariant-loop-n
invariant-loop-n l = TellDynamicTo l.n l.h l.flags.items
