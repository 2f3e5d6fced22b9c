use Rattle.std.proofs.Common.{◌≡◌, length}
use Rattle.byte_memory.specs.Words.{bits_in, with_word}
use Rattle.byte_memory.proofs.cells.write_word.Given as goal

abbrev pub invariant-loop-i : goal.invariant-loop-i
invariant-loop-i l = record {
  bits : bits_in l.cells ≡ with_word (bits_in l.initial.cells) l.at l.i l.fn.word;
  len : length l.cells ≡ length l.initial.cells;
}
