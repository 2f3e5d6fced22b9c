use Rattle.abi_vtable.specs.invariants.Words.{AreNotOver}
use Rattle.abi_vtable.proofs.words.part_over.Given as goal

abbrev pub invariant-loop-n : goal.invariant-loop-n
invariant-loop-n l = AreNotOver l.h l.parts l.s l.d l.n
