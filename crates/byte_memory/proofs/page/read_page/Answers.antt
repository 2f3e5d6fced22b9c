use Rattle.std.proofs.Common.{arith}
use Rattle.byte_memory.specs.Words.{words_bits}
use Rattle.byte_memory.proofs.WordBits.{read-one, read-two}
use Rattle.byte_memory.proofs.page.read_page.Goals as goal

pub returns-then-first-n-le8 : goal.returns-then-first-n-le8
returns-then-first-n-le8 c =
    read-one (words_bits c.args.page.now.words.items) c.args.at c.args.n c.word_at.result c.from_bit-low.result (omega (arith, c.if-first-n-le8.true))
    (rw c.deref.ensures.value at c.word_at.ensures) c.from_bit-low.ensures

pub returns : goal.returns
returns c =
    read-two (words_bits c.args.page.now.words.items) c.args.at c.args.n c.word_at.result c.from_bit-low.result c.word_at-high.result c.with_bits.result c.requires.short (omega (arith, c.if-first-n-le8.false))
    (rw c.deref.ensures.value at c.word_at.ensures) c.from_bit-low.ensures (rw c.deref-2.ensures.value at c.word_at-high.ensures) c.with_bits.ensures
