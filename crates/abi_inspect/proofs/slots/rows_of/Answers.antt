use Rattle.std.proofs.Common.{◌≡◌, ◌∙◌, ℕ, ◌*◌, ◌<◌, List, length, ap, subst, arith}
use Rattle.foundation.proofs.Members.{Has, has_from_contains}
use Rattle.abi_sound.specs.Places.{places_of, size_in_row}
use Rattle.abi_inspect.specs.declared.slots.Slot.{Slot}
use Rattle.abi_inspect.specs.declared.slots.Row.{Row}
use Rattle.abi_inspect.specs.declared.slots.Row.TheVariants.{Leaf}
use Rattle.abi_inspect.specs.Rows.{slot_bit, slots_by_place, slots_of}
use Rattle.abi_inspect.proofs.SlotPlaces.{begins_inside, from_by_place, rows_narrow, slots_lie}
use Rattle.abi_inspect.proofs.slots.rows_of.Goals as goal

pub layout-requires : goal.layout-requires
layout-requires g c =
    let h = c.args.h.now in
    let rows = g.L.SoundLayout.rows c.args.layout.now in
    let sound = g.met.L.SoundLayout.sound c.args.layout.now h c.requires.layout in
    let known : c.args.c.0 < length h = c.requires.known in
    let all : length rows ≡ length h = sound.full.one_each in omega arith

pub sort_by_place-requires : goal.sort_by_place-requires
sort_by_place-requires g c = λ slot has.
    let h = c.args.h.now in
    let rows = g.L.SoundLayout.rows c.args.layout.now in
    let l = places_of h rows in
    let sound = g.met.L.SoundLayout.sound c.args.layout.now h c.requires.layout in
    let there : Has (slots_of h l c.args.c) slot = subst (λ (slots : List Slot). Has slots slot) c.in_ok-slots.ensures (has_from_contains c.in_ok-slots.slots.items slot has) in
    let lies = slots_lie h rows c.keeps.ensures sound c.args.c c.requires.known slot there in
    subst (λ (k : ℕ). slot_bit slot < 8 * k) (ap size_in_row c.layout.ensures) (begins_inside (l.size c.args.c) slot lies)

pub rows_from-requires : goal.rows_from-requires
rows_from-requires g c = λ slot has.
    let h = c.args.h.now in
    let rows = g.L.SoundLayout.rows c.args.layout.now in
    let l = places_of h rows in
    let sound = g.met.L.SoundLayout.sound c.args.layout.now h c.requires.layout in
    let sorted : c.deref.result.now ≡ slots_by_place c.layout.result.now.size (slots_of h l c.args.c) = c.deref.ensures.value ∙ (c.in_ok-sort_by_place.ensures ∙ ap (slots_by_place c.layout.result.now.size) c.in_ok-slots.ensures) in
    let there = from_by_place c.layout.result.now.size (slots_of h l c.args.c) slot (subst (λ (slots : List Slot). Has slots slot) sorted (has_from_contains c.deref.result.now slot has)) in
    let lies = slots_lie h rows c.keeps.ensures sound c.args.c c.requires.known slot there in
    let inside = lies.inside in
    let few = lies.few in
    let most = (sound.each c.args.c c.requires.known).bounded in
    omega arith

pub returns-clause-narrow : goal.returns-clause-narrow
returns-clause-narrow g c = λ x has.
    let h = c.args.h.now in
    let rows = g.L.SoundLayout.rows c.args.layout.now in
    let l = places_of h rows in
    let sound = g.met.L.SoundLayout.sound c.args.layout.now h c.requires.layout in
    let sorted : c.deref.result.now ≡ slots_by_place c.layout.result.now.size (slots_of h l c.args.c) = c.deref.ensures.value ∙ (c.in_ok-sort_by_place.ensures ∙ ap (slots_by_place c.layout.result.now.size) c.in_ok-slots.ensures) in
    rows_narrow c.layout.result.now.size 0 c.deref.result.now
    (λ slot there. (slots_lie h rows c.keeps.ensures sound c.args.c c.requires.known slot (from_by_place c.layout.result.now.size (slots_of h l c.args.c) slot (subst (λ (slots : List Slot). Has slots slot) sorted there))).narrow)
    x (subst (λ (rs : List Row). Has rs (Leaf x)) c.in_ok-rows.ensures (has_from_contains c.in_ok-rows.rows.items (Leaf x) has))
