use Rattle.abi_vtt.specs.invariants.Marks.{AreVirtualMarks}
use Rattle.abi_vtt.proofs.marks.virtual_marks.Given as goal

abbrev pub invariant-loop-n : goal.invariant-loop-n
invariant-loop-n l = AreVirtualMarks l.h l.n l.marks.items
