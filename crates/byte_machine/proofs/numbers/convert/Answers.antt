use Rattle.byte_machine.proofs.Arithmetic.{wide_word, wide_bits}
use Rattle.byte_machine.proofs.numbers.convert.Goals as goal

pub returns-else-width-le8 : goal.returns-else-width-le8
returns-else-width-le8 c = rw c.in-Bytes.is (wide_word c.in-Bytes.width c.args.word c.if-width-le8.false c.ranges.word.fits)

pub returns-else-width-le64 : goal.returns-else-width-le64
returns-else-width-le64 c = rw c.in-Bits.is (wide_bits c.in-Bits.width c.args.word c.if-width-le64.false c.ranges.word.fits)
