use Rattle.std.proofs.Common.{◌≡◌, ◌∙◌, ap, sym, w64, of_z, to_z}
use Rattle.std.proofs.lemmas.Int.{to_z-of_z}
use Rattle.byte_code.specs.Numbers.{number_of_word, extended}
use Rattle.byte_machine.proofs.Ranges.{number_fits, word_is}
use Rattle.byte_machine.proofs.numbers.signed_number.Goals as goal

pub returns : goal.returns
returns c =
    let z = number_of_word c.args.width c.args.word in
    let fits = number_fits c.args.width c.args.word c.requires.bytes c.requires.signed in
    let word : c.extend.result ≡ of_z w64 z = c.extend.ensures ∙ ap (extended c.args.width) c.low.ensures.value ∙ sym (word_is z fits) in
    let is : c.cast_signed.result ≡ z = c.cast_signed.ensures ∙ ap (to_z w64) word ∙ to_z-of_z w64 z fits in
    ap (λ number. to_z w64 (of_z w64 number)) is ∙ to_z-of_z w64 z fits
