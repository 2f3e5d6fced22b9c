use Rattle.abi_layout.proofs.rules.PlacedLemmas.{free_by}
use Rattle.abi_layout.proofs.placed_bases.is_free.Goals as goal

pub returns : goal.returns
returns c =
    let x = c.args.scene.now in
    free_by x.h.now x.primaries.now x.c x.list.now x.c.0 x.holders.now c.args.v c.holder.result c.is_none.result c.requires.scene.tells c.requires.scene.holders_are c.requires.before c.holder.ensures c.is_none.ensures
