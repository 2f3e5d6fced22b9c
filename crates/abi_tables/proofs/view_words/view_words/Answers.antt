use Rattle.std.proofs.Common.{ap, sym, ◌∙◌, ◌+◌, Some, arith}
use Rattle.abi_sound.specs.Places.{places_of}
use Rattle.abi_slots.specs.Groups.{is_shared_base}
use Rattle.abi_tables.specs.Counts.{words_of_class}
use Rattle.abi_tables.specs.invariants.Weights.{head_words, sides_of, view_at}
use Rattle.abi_tables.proofs.ViewLemmas.{class_known, base_known, listed_base, shared_is_base, view_start, top_more, view_all}
use Rattle.abi_tables.proofs.view_words.view_words.Goals as goal

pub layout-requires : goal.layout-requires
layout-requires g c =
    let sound = g.met.L.SoundLayout.sound c.args.layout.now c.args.h.now c.requires.layout in
    let known = class_known c.args.h.now c.keeps.ensures c.args.c c.args.x.now c.args.d c.requires.view in
    let size = sound.full.one_each in
    omega arith

pub loop-v-init : goal.loop-v-init
loop-v-init g c =
    let h = c.args.h.now in
    let l = places_of h (g.L.SoundLayout.rows c.args.layout.now) in
    let known = class_known h c.keeps.ensures c.args.c c.args.x.now c.args.d c.requires.view in
    view_start h l (view_at c.args.c c.args.x.now c.args.d) c.as_slice-v-items.result.now (words_of_class h l (is_shared_base c.args.x.now) (Some c.args.d)) c.class_table.result c.number_of.result c.capped-sum.result
    (c.class_table.ensures h l c.requires.slots known (λ e. shared_is_base h c.args.c c.args.d c.args.x.now c.requires.view.valid c.requires.view.of_class (sym c.is_shared_base.ensures ∙ e)) ∙ ap (λ b. words_of_class h l b (Some c.args.d)) c.is_shared_base.ensures)
    (c.number_of.ensures ∙ c.requires.sides.each c.args.d known) c.capped-sum.ensures

pub top_word_count-top-requires-clause-base : goal.top_word_count-top-requires-clause-base
top_word_count-top-requires-clause-base g c =
    let full = (g.met.L.SoundLayout.sound c.args.layout.now c.args.h.now c.requires.layout).full.each c.args.d c.layout.result.now c.layout.ensures in
    listed_base c.args.h.now c.args.d c.as_slice-v-items.result.now c.loop-v.v-index (record { 0 = 0 }) (c.as_slice-v-items.ensures ∙ full.virtuals) c.loop-v-test.true

pub loop-v-preserved : goal.loop-v-preserved
loop-v-preserved g c =
    let h = c.args.h.now in
    let l = places_of h (g.L.SoundLayout.rows c.args.layout.now) in
    let list = c.as_slice-v-items.result.now in
    let full = (g.met.L.SoundLayout.sound c.args.layout.now h c.requires.layout).full.each c.args.d c.layout.result.now c.layout.ensures in
    let has = listed_base h c.args.d list c.loop-v.v-index (record { 0 = 0 }) (c.as_slice-v-items.ensures ∙ full.virtuals) c.loop-v-test.true in
    let known = base_known h c.keeps.ensures c.args.c c.args.x.now c.args.d _ c.requires.view has in
    top_more h l (view_at c.args.c c.args.x.now c.args.d) list c.loop-v.v-index (record { 0 = 0 }) (words_of_class h l (is_shared_base c.args.x.now) (Some c.args.d) + sides_of h l (head_words h l) c.args.d) c.loop-v.sum c.top_word_count-top.result c.number_of-in-loop-v.result c.capped.result c.capped-sum-in-loop-v.result c.loop-v-test.true
    c.loop-v.invariant c.top_word_count-top.ensures (c.number_of-in-loop-v.ensures ∙ c.requires.sides.each _ known) c.capped.ensures c.capped-sum-in-loop-v.ensures

pub returns : goal.returns
returns g c =
    let h = c.args.h.now in
    let rows = g.L.SoundLayout.rows c.args.layout.now in
    let sound = g.met.L.SoundLayout.sound c.args.layout.now h c.requires.layout in
    let full = sound.full.each c.args.d c.layout.result.now c.layout.ensures in
    view_all h rows c.keeps.ensures sound c.args.c c.args.x.now c.args.d c.requires.view c.as_slice-v-items.result.now c.loop-v.v-index c.loop-v.sum (c.as_slice-v-items.ensures ∙ full.virtuals) c.loop-v-test.false c.loop-v.invariant
