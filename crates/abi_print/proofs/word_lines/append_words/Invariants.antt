use Rattle.std.proofs.Common.{◌≡◌, ◌++◌, drop, pos, ◌-ℤ◌}
use Rattle.abi_print.specs.TableTexts.{words_text}
use Rattle.abi_print.proofs.word_lines.append_words.Given as goal

-- the lines so far and those that are left make the whole, and the next number is known
abbrev pub invariant-loop-word : goal.invariant-loop-word
invariant-loop-word g l = record {
  lines : l.text.items ++ words_text l.w.h.now l.number (drop l.word-index l.words) ≡ l.fn.text.items ++ words_text l.w.h.now (pos 0 -ℤ pos l.fn.before) l.words;
  counted : l.number ≡ pos l.word-index -ℤ pos l.fn.before;
}
