use Rattle.std.proofs.Common.{None, get_or, sym, arith}
use Rattle.abi_layout.specs.invariants.Settled.{held_at}
use Rattle.abi_layout.proofs.algorithm.SettledLemmas.{held_here, put_here}
use Rattle.abi_layout.proofs.virtual_places.settle_one.Goals as goal

pub subobject_place-place-requires-clause-path : goal.subobject_place-place-requires-clause-path
subobject_place-place-requires-clause-path c =
    c.requires.can.paths c.args.v.0 c.index-list-n.result (held_here c.args.list.now c.args.holders.now c.args.v.0 c.in-Some.n c.index-list-n.result c.in-Some.ensures (c.requires.can.below c.args.v.0 c.in-Some.n (sym c.in-Some.ensures)) c.index-list-n.is)

pub subobject_place-place-requires-clause-bounded : goal.subobject_place-place-requires-clause-bounded
subobject_place-place-requires-clause-bounded c =
    let held = held_here c.args.list.now c.args.holders.now c.args.v.0 c.in-Some.n c.index-list-n.result c.in-Some.ensures (c.requires.can.below c.args.v.0 c.in-Some.n (sym c.in-Some.ensures)) c.index-list-n.is in
    let room = c.requires.can.roomy c.args.v.0 c.index-list-n.result c.args.table.now held c.requires.room in
    omega arith

pub returns-in-Some : goal.returns-in-Some
returns-in-Some c =
    let held = held_here c.args.list.now c.args.holders.now c.args.v.0 c.in-Some.n c.index-list-n.result c.in-Some.ensures (c.requires.can.below c.args.v.0 c.in-Some.n (sym c.in-Some.ensures)) c.index-list-n.is in
    put_here c.args.h.now c.args.rows.now c.args.table.now c.args.v.0 c.subobject_place-place.result c.index-list-n.result (held_at c.args.list.now (get_or c.args.holders.now c.args.v.0 None)) c.subobject_place-place.ensures held
