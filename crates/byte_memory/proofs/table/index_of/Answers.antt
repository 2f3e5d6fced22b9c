use Rattle.std.proofs.Common.{◌≡◌, ◌+◌, ◌-◌, ◌<◌, ◌∙◌, sym, refl, length, arith}
use Rattle.std.proofs.lemmas.Bool.Decides.{nat_tests}
use Rattle.std.proofs.lemmas.Option.{slice_get_read}
use Rattle.byte_memory.specs.declared.page.Page.{Page}
use Rattle.byte_memory.specs.Pages.{numbered}
use Rattle.byte_memory.proofs.Ascending.{find-empty, find-last, find-fails}
use Rattle.byte_memory.proofs.PageBits.{numbered-address}
use Rattle.byte_memory.proofs.table.index_of.Goals as goal

pub returns-then-count-eq0 : goal.returns-then-count-eq0
returns-then-count-eq0 c = find-empty (λ (p : Page). p.number) (λ p. 1) c.args.pages.now c.args.number (numbered c.args.number) (numbered-address _ _) (rw c.if-count-eq0.true at c.count_up_to-count.ensures.count)

pub returns-then-pages-count : goal.returns-then-pages-count
returns-then-pages-count c =
    let pages = c.args.pages.now in
    let inside : c.count_up_to-count.result - 1 < length pages = omega (arith, c.if-count-eq0.false, c.count_up_to-count.ensures.bound) in
    let here = slice_get_read pages (length pages) (c.count_up_to-count.result - 1) c.index-pages-count.result refl inside c.index-pages-count.is in
    (inside, find-last (λ (p : Page). p.number) (λ p. 1) pages c.args.number (numbered c.args.number) _ _ c.requires (numbered-address _ _) here (grind (arith, nat_tests)) ∙ sym here)

pub returns-else-pages-count : goal.returns-else-pages-count
returns-else-pages-count c =
    let pages = c.args.pages.now in
    let inside : c.count_up_to-count.result - 1 < length pages = omega (arith, c.if-count-eq0.false, c.count_up_to-count.ensures.bound) in
    let here = slice_get_read pages (length pages) (c.count_up_to-count.result - 1) c.index-pages-count.result refl inside c.index-pages-count.is in
    let more : c.count_up_to-count.result - 1 + 1 ≡ c.count_up_to-count.result = omega (arith, c.if-count-eq0.false) in
    find-fails (λ (p : Page). p.number) (λ p. 1) pages c.args.number (numbered c.args.number) (c.count_up_to-count.result - 1) _ c.requires (numbered-address _ _) (rw more c.count_up_to-count.ensures.count) here (grind (arith, nat_tests))
