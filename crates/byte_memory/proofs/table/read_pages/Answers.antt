use Rattle.std.proofs.Common.{arith, ◌≡◌, ◌∙◌, ap, ◌+◌, ◌-◌, ◌*◌, ◌/◌, ◌%◌, ◌<◌, ◌≤◌, ⊎_elim}
use Rattle.std.proofs.lemmas.Bool.{cases_lt}
use Rattle.byte_memory.specs.Pages.{bits_of}
use Rattle.byte_memory.proofs.table.read_pages.Goals as goal

pub returns : goal.returns
returns c =
    let pages = c.args.pages.now in
    let first = c.args.at % 4096 in
    let number = c.args.at / 4096 in
    let here = 4096 - first in
    record {
      bits = λ place inside. ⊎_elim
          (λ (less : place < 8 * here).
          let there : 32768 * number + 8 * first + place ≡ 8 * c.args.at + place = omega arith in
          c.joined.ensures.low place less ∙ (c.read_part-low.ensures place less ∙ ap (bits_of pages) there))
          (λ (more : 8 * here ≤ place).
          let less : place - 8 * here < 8 * (c.args.n - here) = omega (arith, inside) in
          let there : 32768 * (number + 1) + 8 * 0 + (place - 8 * here) ≡ 8 * c.args.at + place = omega arith in
          c.joined.ensures.high place more (omega (arith, inside)) ∙ (c.read_part-high.ensures (place - 8 * here) less ∙ ap (bits_of pages) there))
          (cases_lt place (8 * here));
    }
