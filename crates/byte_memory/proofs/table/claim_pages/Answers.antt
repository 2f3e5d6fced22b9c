use Rattle.std.proofs.Common.{◌≡◌, true}
use Rattle.std.specs.Prelude.{is_some}
use Rattle.std.specs.List.{find}
use Rattle.byte_memory.specs.Pages.{numbered}
use Rattle.std.proofs.Common.{arith}
use Rattle.std.proofs.lemmas.Grind.{common_steps}
use Rattle.byte_memory.proofs.Adding.{AreAdded-claimed, found-some}
use Rattle.byte_memory.proofs.table.claim_pages.Goals as goal

pub returns : goal.returns
returns c =
    let pages = c.args.pages.now.items in
    let some : is_some c.index_of.result ≡ true = grind (arith, common_steps) in
    let held : is_some (find (numbered c.args.first) pages) ≡ true = found-some c.index_of.result pages c.args.first some (rw c.deref.ensures.value at c.index_of.ensures) in
    AreAdded-claimed pages c.add_pages-2.new.pages.items c.claim_page.new.pages.items c.args.first c.args.n c.requires.some c.in_ok-add_pages.ensures held c.claim_page.ensures.ascending c.claim_page.ensures.claimed
