use Rattle.abi_layout.proofs.algorithm.KeepingLemmas.{AreNoOwners}
use Rattle.abi_layout.proofs.keeping.is_member_type.Given as goal

abbrev pub invariant-loop-n : goal.invariant-loop-n
invariant-loop-n l = AreNoOwners l.h l.c l.n
