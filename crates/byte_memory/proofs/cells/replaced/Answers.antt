use Rattle.byte_memory.proofs.WordNumbers.{replaced_bit}
use Rattle.byte_memory.proofs.cells.replaced.Goals as goal

pub returns : goal.returns
returns c place inside = replaced_bit c.args.word c.args.first c.args.bits c.args.from place c.requires.word inside
