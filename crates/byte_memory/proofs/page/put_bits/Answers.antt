use Rattle.std.proofs.Common.{refl, length}
use Rattle.std.proofs.lemmas.Option.{slice_get_read}
use Rattle.byte_memory.proofs.WordBits.{words_bits-put}
use Rattle.byte_memory.proofs.page.put_bits.Goals as goal

pub returns-clause-bits : goal.returns-clause-bits
returns-clause-bits c =
    let words = c.args.words.now.items in
    let here = slice_get_read words (length words) c.args.number c.index-old.result.now refl c.requires.inside c.index-old.ensures in
    words_bits-put words c.args.number c.args.first c.args.bits c.index-old.result.now c.with_bits.result c.args.from c.requires.inside here c.requires.word c.with_bits.ensures
