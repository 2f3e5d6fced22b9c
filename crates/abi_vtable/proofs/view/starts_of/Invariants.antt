use Rattle.abi_vtable.specs.invariants.Parts.{AreStartsTo}
use Rattle.abi_vtable.proofs.view.starts_of.Given as goal

abbrev pub invariant-loop-n : goal.invariant-loop-n
invariant-loop-n l = AreStartsTo l.starts.items l.parts l.n
