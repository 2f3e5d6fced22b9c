use Rattle.byte_memory.proofs.Adding.{added-result, AreAdded-append}
use Rattle.byte_memory.proofs.table.add_pages.Goals as goal

pub returns : goal.returns
returns c = added-result c.append.result c.args.pages.now.items _ c.in_ok-fresh.fresh.items c.args.first c.args.n c.append.ensures.items (AreAdded-append c.args.pages.now.items c.in_ok-fresh.fresh.items c.args.first c.args.n c.requires.ascending c.in_ok-fresh.ensures c.requires.above)
