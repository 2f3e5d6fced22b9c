use Rattle.std.proofs.Common.{◌≡◌, ◌*◌, length}
use Rattle.byte_memory.specs.Words.{bits_in}
use Rattle.byte_memory.specs.Bits.{cleared}
use Rattle.byte_memory.proofs.cells.clear_cells.Given as goal

abbrev pub invariant-loop-i : goal.invariant-loop-i
invariant-loop-i l = record {
  cleared : bits_in l.cells.items ≡ cleared (bits_in l.initial.cells.items) (8 * l.at) (8 * l.i);
  len : length l.cells.items ≡ length l.initial.cells.items;
}
