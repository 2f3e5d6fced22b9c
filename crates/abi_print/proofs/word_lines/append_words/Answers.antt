use Rattle.std.proofs.Common.{◌≡◌, ℤ, pos, ◌+ℤ◌, to_z, of_z, w64, arith}
use Rattle.std.proofs.lemmas.Int.{ints}
use Rattle.abi_print.proofs.TextLemmas.{words_more}
use Rattle.abi_print.proofs.word_lines.append_words.Goals as goal

pub loop-word-preserved : goal.loop-word-preserved
loop-word-preserved g c =
    let number : ℤ = to_z w64 c.loop-word.number-bits in
    let next : to_z w64 (of_z w64 (number +ℤ pos 1)) ≡ number +ℤ pos 1 = omega (arith, ints) in
    record {
      lines = words_more c.args.w.now.h.now c.args.words.now c.loop-word.word-index _ number _ c.loop-word.text.items c.append_word_line.new.text.items _ c.loop-word-test.true c.loop-word.invariant.lines c.in_ok-append_word_line.ensures next;
      counted = omega (arith, ints);
    }
