use Rattle.std.proofs.Common.{◌∙◌, ap, sym, refl, length}
use Rattle.std.proofs.lemmas.Option.{slice_get_read}
use Rattle.byte_memory.specs.declared.page.Page.{Page}
use Rattle.byte_memory.specs.Pages.{numbered}
use Rattle.byte_memory.proofs.Ascending.{find-last}
use Rattle.byte_memory.proofs.PageBits.{numbered-address}
use Rattle.byte_memory.proofs.table.is_at.Goals as goal

pub returns-then-index-pages : goal.returns-then-index-pages
returns-then-index-pages c test =
    let pages = c.args.pages.now in
    let here = slice_get_read pages (length pages) c.args.index c.index-pages-index.result refl c.if-index-pages.true c.index-pages-index.is in
    (c.if-index-pages.true, find-last (λ (p : Page). p.number) (λ p. 1) pages c.args.number (numbered c.args.number) _ _ c.requires (numbered-address _ _) here (ap (numbered c.args.number) c.index-pages-index.is ∙ test) ∙ sym here)
