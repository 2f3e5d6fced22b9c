use Rattle.std.specs.List.{find}
use Rattle.byte_memory.specs.Pages.{numbered}
use Rattle.byte_memory.proofs.Tables.{release-more, release-none}
use Rattle.byte_memory.proofs.table.release_pages.Goals as goal

pub loop-k-init : goal.loop-k-init
loop-k-init c = record { ascending = c.requires.ascending; released = λ other. release-none _ other _ }

pub loop-k-preserved : goal.loop-k-preserved
loop-k-preserved c = record { ascending = c.release_page.ensures.ascending; released = λ other. release-more c.args.first c.loop-k.k other (find (numbered other) c.args.pages.now.items) _ _ (c.release_page.ensures.released other) (c.loop-k.invariant.released other) }
