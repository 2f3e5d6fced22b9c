use Rattle.std.proofs.Common.{get_or}
use Rattle.cxx_subobject.specs.Preorder.{preorder}
use Rattle.abi_sound.specs.Places.{places_of}
use Rattle.abi_slots.specs.Groups.{IsTable}
use Rattle.abi_slots.specs.Views.{heads}
use Rattle.abi_vtable.specs.invariants.Parts.{view_of_parts}
use Rattle.abi_vtable.proofs.Lists.{read_at}
use Rattle.abi_vtable.proofs.TableWords.{go_more, head_at, number_below}
use Rattle.abi_vtable.proofs.tables.tables_of.Goals as goal

pub table-requires-clause-number : goal.table-requires-clause-number
table-requires-clause-number g c =
    let h = c.args.site.now.h.now in
    let l = places_of h (g.L.SoundLayout.rows c.args.site.now.layout.now) in
    let v = c.args.x.now in
    let n = get_or c.args.numbers.now c.loop-number.number-index 0 in
    let at = head_at (preorder h v.class) (heads h l (view_of_parts v)) c.args.numbers.now c.loop-number.number-index n c.requires.heads (read_at c.args.numbers.now c.loop-number.number-index 0 c.loop-number-test.true) in
    number_below h l v c.requires.view n at.head at.at_number

pub loop-number-preserved : goal.loop-number-preserved
loop-number-preserved g c =
    let h = c.args.site.now.h.now in
    let l = places_of h (g.L.SoundLayout.rows c.args.site.now.layout.now) in
    let v = c.args.x.now in
    let n = get_or c.args.numbers.now c.loop-number.number-index 0 in
    let at = head_at (preorder h v.class) (heads h l (view_of_parts v)) c.args.numbers.now c.loop-number.number-index n c.requires.heads (read_at c.args.numbers.now c.loop-number.number-index 0 c.loop-number-test.true) in
    (c.in_ok-one.ensures.known, go_more (IsTable h l (view_of_parts v)) (heads h l (view_of_parts v)) c.loop-number.number-index c.loop-number.tables c.push.new.self at.head c.in_ok-one.one at.there (c.in_ok-one.ensures.table at.head at.at_number) c.in_ok-push.ensures.ok c.loop-number.invariant.1)
