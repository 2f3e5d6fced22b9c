use Rattle.abi_vtable.specs.invariants.Parts.{AreNextMarks}
use Rattle.abi_vtable.proofs.heads.next_marks.Given as goal

abbrev pub invariant-loop-part : goal.invariant-loop-part
invariant-loop-part l = AreNextMarks l.parts l.part-index l.marks.items
