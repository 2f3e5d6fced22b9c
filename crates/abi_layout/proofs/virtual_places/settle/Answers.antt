use Rattle.std.proofs.Common.{ℕ, ◌+◌, ◌-◌, List, refl, subst, sym}
use Rattle.abi_layout.proofs.algorithm.SettledLemmas.{SettledFrom, settled_none, settled_more, settled_all}
use Rattle.abi_layout.proofs.virtual_places.settle.Goals as goal

pub loop-i-init : goal.loop-i-init
loop-i-init c = settled_none c.args.h.now c.args.rows.now c.args.list.now c.args.holders.now c.args.count c.args.table.now c.requires.one_each c.requires.room

pub settle_one-requires-clause-room : goal.settle_one-requires-clause-room
settle_one-requires-clause-room c = c.loop-i.invariant.room

pub loop-i-preserved : goal.loop-i-preserved
loop-i-preserved c =
    let h = c.args.h.now in
    let rows = c.args.rows.now in
    let list = c.args.list.now in
    let holders = c.args.holders.now in
    let i = c.loop-i.i in
    subst (λ (t : List ℕ). SettledFrom h rows list holders c.args.count (i + 1) c.args.table.now t) (sym c.settle_one.ensures)
    (settled_more h rows list holders c.args.count i (c.args.count - 1 - i) c.args.table.now c.loop-i.table c.requires.can c.loop-i-test.true refl c.loop-i.invariant)

pub returns : goal.returns
returns c = settled_all c.args.h.now c.args.rows.now c.args.list.now c.args.holders.now c.args.count c.loop-i.i c.args.table.now c.loop-i.table c.requires.one_each c.loop-i-test.false c.loop-i.invariant
