use Rattle.std.proofs.Common.{◌∙◌, ◌+◌, ◌-◌, ◌*◌, ◌/◌, ◌%◌, ap, arith}
use Rattle.byte_memory.specs.Words.{words_bits, with_word, with_part}
use Rattle.byte_memory.proofs.WordBits.{one_part, two_parts}
use Rattle.byte_memory.proofs.page.write_page.Goals as goal

pub returns-then-first-n-le8-clause-bits : goal.returns-then-first-n-le8-clause-bits
returns-then-first-n-le8-clause-bits c =
    c.put_bits.ensures.bits
    ∙ (one_part (words_bits c.extend_words.new.words.items) c.args.at c.args.n c.args.word
    ∙ ap (λ b. with_word b c.args.at c.args.n c.args.word) c.extend_words.ensures.bits)

pub returns-clause-bits : goal.returns-clause-bits
returns-clause-bits c =
    let here = 8 - c.args.at % 8 in
    c.put_bits-3.ensures.bits
    ∙ (ap (λ b. with_part b (64 * (c.args.at / 8 + 1) + 0) (8 * (c.args.n - here)) c.from_bit-rest.result) c.put_bits-2.ensures.bits
    ∙ (two_parts (words_bits c.extend_words.new.words.items) c.args.at here c.args.n c.args.word c.from_bit-rest.result (omega (arith, c.if-first-n-le8.false)) (omega arith) c.from_bit-rest.ensures
    ∙ ap (λ b. with_word b c.args.at c.args.n c.args.word) c.extend_words.ensures.bits))
