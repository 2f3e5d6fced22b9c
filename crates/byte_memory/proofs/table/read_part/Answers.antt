use Rattle.std.proofs.Common.{◌∙◌, refl, length}
use Rattle.std.proofs.lemmas.Option.{slice_get_read}
use Rattle.byte_memory.proofs.PageBits.{read-part, read-no_page}
use Rattle.byte_memory.proofs.table.read_part.Goals as goal

pub returns-in-None : goal.returns-in-None
returns-in-None c place less = read-no_page c.args.pages.now c.args.number c.args.at c.args.n place c.in-None.ensures c.requires.inside less

pub returns-in-Some : goal.returns-in-Some
returns-in-Some c =
    let pages = c.args.pages.now in
    let here = slice_get_read pages (length pages) c.in-Some.index c.index-pages-index.result refl c.in-Some.ensures.0 c.index-pages-index.is in
    read-part pages c.args.number c.args.at c.args.n c.index-pages-index.result c.read_page.result (c.in-Some.ensures.1 ∙ here) c.requires.inside c.read_page.ensures
