use Rattle.byte_memory.proofs.WordBytes.{AreFirst, value_of, mask_of}
use Rattle.byte_memory.proofs.cells.read_word.Given as goal

abbrev pub invariant-loop-i : goal.invariant-loop-i
invariant-loop-i l = record {
  value : AreFirst value_of l.cells l.at l.i l.values;
  mask : AreFirst mask_of l.cells l.at l.i l.sets;
}
