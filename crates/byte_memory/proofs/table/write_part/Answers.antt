use Rattle.std.proofs.Common.{◌≡◌, ◌∙◌, ◌*◌, ◌+◌, ap, refl, length}
use Rattle.std.specs.Prelude.{Some}
use Rattle.std.specs.List.{find}
use Rattle.std.proofs.lemmas.Option.{slice_get_read}
use Rattle.byte_memory.specs.Pages.{numbered, bits_of}
use Rattle.byte_memory.specs.Words.{with_word}
use Rattle.byte_memory.proofs.Tables.{bits_of-set, used-set, found_number}
use Rattle.byte_memory.proofs.table.write_part.Goals as goal

pub returns-in-Some-clause-same : goal.returns-in-Some-clause-same
returns-in-Some-clause-same c =
    let pages = c.args.pages.now.items in
    let found = rw c.deref.ensures.value at c.in-Some.ensures in
    let here = slice_get_read pages (length pages) c.in-Some.index c.index_mut.result.now refl found.0 c.index_mut.ensures.value in
    let there : find (numbered c.args.number) pages ≡ Some c.index_mut.result.now = found.1 ∙ here in
    let number = found_number pages c.args.number c.index_mut.result.now there in
    used-set pages c.in-Some.index c.index_mut.result.now c.write_page.new.page c.requires.ascending here (ap (λ k. find (numbered k) pages) number ∙ there) c.write_page.ensures.number c.write_page.ensures.users

pub returns-in-Some-clause-bits : goal.returns-in-Some-clause-bits
returns-in-Some-clause-bits c =
    let pages = c.args.pages.now.items in
    let found = rw c.deref.ensures.value at c.in-Some.ensures in
    let here = slice_get_read pages (length pages) c.in-Some.index c.index_mut.result.now refl found.0 c.index_mut.ensures.value in
    let there : find (numbered c.args.number) pages ≡ Some c.index_mut.result.now = found.1 ∙ here in
    let number = found_number pages c.args.number c.index_mut.result.now there in
    bits_of-set pages c.in-Some.index c.index_mut.result.now c.write_page.new.page c.args.at c.args.n c.args.word c.requires.ascending here (ap (λ k. find (numbered k) pages) number ∙ there) c.write_page.ensures.number c.requires.inside c.write_page.ensures.bits
    ∙ ap (λ k. with_word (bits_of pages) (4096 * k + c.args.at) c.args.n c.args.word) number
