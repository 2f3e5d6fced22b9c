use Rattle.std.proofs.Common.{◌≡◌, ◌∙◌, ℕ, ◌*◌, ◌<◌, List, ap, subst, arith}
use Rattle.foundation.proofs.Members.{Has, has_from_contains}
use Rattle.abi_sound.specs.Places.{places_of, size_in_row}
use Rattle.text_told.specs.declared.items.Item.{Item}
use Rattle.text_told.specs.Dumps.{bit_of, by_place, dump_items}
use Rattle.text_told.proofs.Contents.{begins_inside, lies_in, from_by_place}
use Rattle.text_told.proofs.dump.append_contents.Goals as goal

pub sort_by_place-requires : goal.sort_by_place-requires
sort_by_place-requires g c = λ item has.
    let h = c.args.h.now in
    let rows = g.L.SoundLayout.rows c.args.layout.now in
    let l = places_of h rows in
    let sound = g.met.L.SoundLayout.sound c.args.layout.now h c.requires.layout in
    let there : Has (dump_items h l c.args.c c.args.leaves.now) item = subst (λ (items : List Item). Has items item) c.in_ok-items.ensures (has_from_contains c.in_ok-items.items.items item has) in
    let lies = lies_in h rows c.keeps.ensures sound c.args.c c.args.leaves.now c.requires.dumped item there in
    subst (λ (k : ℕ). bit_of item < 8 * k) (ap size_in_row c.layout.ensures) (begins_inside (l.size c.args.c) item lies)

pub append_lines-requires : goal.append_lines-requires
append_lines-requires g c = λ item has.
    let h = c.args.h.now in
    let rows = g.L.SoundLayout.rows c.args.layout.now in
    let l = places_of h rows in
    let sound = g.met.L.SoundLayout.sound c.args.layout.now h c.requires.layout in
    let sorted : c.deref.result.now ≡ by_place c.layout.result.now.size (dump_items h l c.args.c c.args.leaves.now) = c.deref.ensures.value ∙ (c.in_ok-sort_by_place.ensures ∙ ap (by_place c.layout.result.now.size) c.in_ok-items.ensures) in
    let there = from_by_place c.layout.result.now.size (dump_items h l c.args.c c.args.leaves.now) item (subst (λ (items : List Item). Has items item) sorted (has_from_contains c.deref.result.now item has)) in
    let lies = lies_in h rows c.keeps.ensures sound c.args.c c.args.leaves.now c.requires.dumped item there in
    let inside = lies.inside in
    let few = lies.few in
    let most = (sound.each c.args.c c.requires.dumped.known).bounded in
    omega arith
