use Rattle.std.proofs.Common.{refl}
use Rattle.byte_memory.proofs.BitLists.{has_bit-shifted}
use Rattle.byte_memory.proofs.cells.from_bit.Goals as goal

pub returns : goal.returns
returns c place = rw (has_bit-shifted c.args.word.set c.args.first place, has_bit-shifted c.args.word.value c.args.first place) refl
