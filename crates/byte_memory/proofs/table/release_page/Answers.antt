use Rattle.std.proofs.Common.{◌≡◌, ◌∙◌, ◌-◌, ◌≤◌, ap, refl, length}
use Rattle.std.specs.Prelude.{Some}
use Rattle.std.specs.List.{find, slice_get}
use Rattle.std.proofs.lemmas.Option.{slice_get_read}
use Rattle.byte_memory.specs.Pages.{numbered, released}
use Rattle.byte_memory.proofs.Tables.{changed-set, changed-remove, page_same, AreOrdered-set, AreOrdered-remove, released-last, released-more}
use Rattle.byte_memory.proofs.table.release_page.Goals as goal

pub returns-then-index-lt2-clause-ascending : goal.returns-then-index-lt2-clause-ascending
returns-then-index-lt2-clause-ascending c = rw c.remove.ensures.items (AreOrdered-remove c.args.pages.now.items c.in-Some.index c.requires.ascending)

pub returns-then-index-lt2-clause-released : goal.returns-then-index-lt2-clause-released
returns-then-index-lt2-clause-released c other =
    let pages = c.args.pages.now.items in
    let at = c.in-Some.index in
    let found = rw c.deref.ensures.value at c.in-Some.ensures in
    let here : slice_get pages at ≡ Some c.index.result.now = slice_get_read pages (length pages) at c.index.result.now refl found.0 c.index.ensures in
    let there : find (numbered c.args.number) pages ≡ Some c.index.result.now = found.1 ∙ here in
    ap (find (numbered other)) c.remove.ensures.items ∙ changed-remove released pages at c.index.result.now c.args.number other c.requires.ascending here there (released-last c.index.result.now c.if-index-lt2.true)

pub returns-else-index-lt2-clause-ascending : goal.returns-else-index-lt2-clause-ascending
returns-else-index-lt2-clause-ascending c =
    let pages = c.args.pages.now.items in
    let at = c.in-Some.index in
    let found = rw c.deref.ensures.value at c.in-Some.ensures in
    let here : slice_get pages at ≡ Some c.index_mut.result.now = slice_get_read pages (length pages) at c.index_mut.result.now refl found.0 c.index_mut.ensures.value in
    let there : find (numbered c.args.number) pages ≡ Some c.index_mut.result.now = found.1 ∙ here in
    AreOrdered-set pages at c.index_mut.result.now _ c.requires.ascending here refl

pub returns-else-index-lt2-clause-released : goal.returns-else-index-lt2-clause-released
returns-else-index-lt2-clause-released c other =
    let pages = c.args.pages.now.items in
    let at = c.in-Some.index in
    let found = rw c.deref.ensures.value at c.in-Some.ensures in
    let here : slice_get pages at ≡ Some c.index_mut.result.now = slice_get_read pages (length pages) at c.index_mut.result.now refl found.0 c.index_mut.ensures.value in
    let there : find (numbered c.args.number) pages ≡ Some c.index_mut.result.now = found.1 ∙ here in
    let read : slice_get pages at ≡ Some c.index.result.now = slice_get_read pages (length pages) at c.index.result.now refl found.0 c.index.ensures in
    let same : c.index.result.now ≡ c.index_mut.result.now = cc in
    let more : 2 ≤ c.index_mut.result.now.users = rw (← same) c.if-index-lt2.false in
    changed-set released pages at c.index_mut.result.now _ c.args.number other c.requires.ascending here there refl (released-more c.index_mut.result.now more ∙ ap Some (page_same c.index_mut.result.now (c.index_mut.result.now.users - 1) _ _))
