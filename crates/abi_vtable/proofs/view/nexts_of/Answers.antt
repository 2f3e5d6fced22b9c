use Rattle.std.proofs.Common.{◌≡◌, length, ap, ◌∙◌, arith, rules}
use Rattle.std.specs.Prelude.{slice_get}
use Rattle.foundation.proofs.Places.{get_read}
use Rattle.abi_sound.specs.Places.{places_of}
use Rattle.abi_vtable.specs.invariants.Parts.{view_of_parts}
use Rattle.abi_vtable.proofs.Parts.{listed_valid, no_nexts, next_more, nexts_all}
use Rattle.abi_vtable.proofs.view.nexts_of.Goals as goal

pub next_of-requires-clause-valid : goal.next_of-requires-clause-valid
next_of-requires-clause-valid g c = listed_valid c.args.h.now c.keeps.ensures c.args.x.now.class c.args.list.now c.loop-s.s-index c.s-item.result c.requires.list (get_read c.args.list.now c.loop-s.s-index c.s-item.result c.loop-s-test.true c.s-item.is)

pub loop-s-init : goal.loop-s-init
loop-s-init g c = no_nexts (places_of c.args.h.now (g.L.SoundLayout.rows c.args.layout.now)) (view_of_parts c.args.x.now) c.args.list.now c.in_ok-nexts.nexts.items c.in_ok-nexts.ensures.items

pub loop-s-preserved : goal.loop-s-preserved
loop-s-preserved g c = next_more (places_of c.args.h.now (g.L.SoundLayout.rows c.args.layout.now)) (view_of_parts c.args.x.now) c.args.list.now c.loop-s.s-index c.s-item.result c.loop-s.nexts.items c.push.new.self.items c.in_ok-next.next c.loop-s-test.true c.s-item.is c.in_ok-next.ensures c.in_ok-push.ensures.items c.loop-s.invariant

pub returns : goal.returns
returns g c = nexts_all (places_of c.args.h.now (g.L.SoundLayout.rows c.args.layout.now)) (view_of_parts c.args.x.now) c.args.list.now c.loop-s.s-index c.loop-s.nexts.items (let e = c.loop-s-test.false in omega arith) c.loop-s.invariant

pub next_of-requires-clause-there : goal.next_of-requires-clause-there
next_of-requires-clause-there g c =
    let size : c.len.result ≡ length c.loop-s.nexts.items = search rules in
    let count : c.len.result ≡ c.loop-s.s-index = size ∙ c.loop-s.invariant.size in
    ap (slice_get c.args.list.now) count ∙ get_read c.args.list.now c.loop-s.s-index c.s-item.result c.loop-s-test.true c.s-item.is

pub next_of-requires-clause-within : goal.next_of-requires-clause-within
next_of-requires-clause-within g c =
    let size : c.len.result ≡ length c.loop-s.nexts.items = search rules in
    let count : c.len.result ≡ c.loop-s.s-index = size ∙ c.loop-s.invariant.size in
    let small = c.loop-s-test.true in
    omega arith
