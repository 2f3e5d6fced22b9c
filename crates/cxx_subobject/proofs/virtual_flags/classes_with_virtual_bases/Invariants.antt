use Rattle.std.proofs.Common.{◌≡◌, length}
use Rattle.cxx_subobject.specs.VirtualFlags.{TellsVirtualBases}
use Rattle.cxx_subobject.proofs.virtual_flags.classes_with_virtual_bases.Given as goal

abbrev pub invariant-loop-number : goal.invariant-loop-number
invariant-loop-number l = record { size : length l.flags.items ≡ l.number; tells : TellsVirtualBases l.h l.flags.items }
