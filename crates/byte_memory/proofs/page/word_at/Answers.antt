use Rattle.std.proofs.Common.{arith}
use Rattle.std.proofs.lemmas.Option.{slice_get-get_or}
use Rattle.byte_memory.proofs.WordBits.{words_bits-there, words_bits-past}
use Rattle.byte_memory.proofs.page.word_at.Goals as goal

pub returns-then-number-words : goal.returns-then-number-words
returns-then-number-words c place less = words_bits-past c.args.words.now c.args.number place (omega (arith, c.if-number-words.true)) less

pub returns : goal.returns
returns c place less = words_bits-there c.args.words.now c.args.number place _ (slice_get-get_or c.args.words.now c.args.number (record { value = 0; set = 0 }) (omega (arith, c.if-number-words.false))) less
