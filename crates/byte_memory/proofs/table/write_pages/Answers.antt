use Rattle.std.proofs.Common.{arith, ◌≡◌, ◌∙◌, ap, ◌+◌, ◌-◌, ◌*◌, ◌/◌, ◌%◌, ◌^◌}
use Rattle.byte_memory.specs.declared.cells.Word.{Word}
use Rattle.byte_memory.specs.Pages.{bits_of}
use Rattle.byte_memory.specs.Words.{with_word}
use Rattle.byte_memory.proofs.Tables.{with_word-split}
use Rattle.byte_memory.proofs.table.write_pages.Goals as goal

pub returns-clause-bits : goal.returns-clause-bits
returns-clause-bits c =
    let pages = c.args.pages.now.items in
    let first = c.args.at % 4096 in
    let number = c.args.at / 4096 in
    let here = 4096 - first in
    let high : Word = record { value = c.args.word.value / 2 ^ (8 * here); set = c.args.word.set / 2 ^ (8 * here) } in
    let start : 4096 * number + first ≡ c.args.at = omega arith in
    let next : 4096 * (number + 1) + 0 ≡ c.args.at + here = omega arith in
    let low = c.write_part-2.ensures.bits ∙ ap (λ k. with_word (bits_of pages) k here c.args.word) start in
    with_word-split (bits_of pages) _ c.args.at here c.args.n c.args.word.value c.args.word.set (omega arith)
    (c.write_part-3.ensures.bits
    ∙ (ap (λ k. with_word (bits_of c.write_part-2.new.pages.items) k (c.args.n - here) high) next
    ∙ ap (λ b. with_word b (c.args.at + here) (c.args.n - here) high) low))
