use Rattle.std.proofs.Common.{◌≡◌, ◌∙◌, ◌+◌, ap, refl, length}
use Rattle.std.specs.Prelude.{Some}
use Rattle.std.specs.List.{find, slice_get}
use Rattle.std.proofs.lemmas.Option.{slice_get_read}
use Rattle.byte_memory.specs.Pages.{numbered, claimed}
use Rattle.byte_memory.proofs.Tables.{changed-set, page_same}
use Rattle.byte_memory.proofs.table.claim_page.Goals as goal

pub returns-in-Some-clause-claimed : goal.returns-in-Some-clause-claimed
returns-in-Some-clause-claimed c other =
    let pages = c.args.pages.now.items in
    let at = c.in-Some.index in
    let found = rw c.deref.ensures.value at c.in-Some.ensures in
    let here : slice_get pages at ≡ Some c.index_mut.result.now = slice_get_read pages (length pages) at c.index_mut.result.now refl found.0 c.index_mut.ensures.value in
    let there : find (numbered c.args.number) pages ≡ Some c.index_mut.result.now = found.1 ∙ here in
    changed-set claimed pages at c.index_mut.result.now _ c.args.number other c.requires.ascending here there refl (ap Some (page_same c.index_mut.result.now (c.index_mut.result.now.users + 1) _ _))
