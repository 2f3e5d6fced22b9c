use Rattle.std.proofs.Common.{sym, ◌∙◌}
use Rattle.abi_sound.specs.Places.{places_of}
use Rattle.abi_tables.specs.invariants.Weights.{view_at}
use Rattle.abi_tables.proofs.ViewLemmas.{base_known, base_here, top_is, top_held, top_stands}
use Rattle.abi_tables.proofs.view_words.top_word_count.Goals as goal

pub is_dynamic-requires : goal.is_dynamic-requires
is_dynamic-requires g c = base_known c.args.h.now c.keeps.ensures c.args.c c.args.x.now c.args.d c.args.v c.requires.view c.requires.base

pub is_held-requires-clause-base : goal.is_held-requires-clause-base
is_held-requires-clause-base g c = base_here c.args.h.now c.args.c c.args.x.now c.args.d c.args.v c.requires.view c.requires.base

pub returns-then-is_held : goal.returns-then-is_held
returns-then-is_held g c =
    let h = c.args.h.now in
    let rows = g.L.SoundLayout.rows c.args.layout.now in
    let sound = g.met.L.SoundLayout.sound c.args.layout.now h c.requires.layout in
    top_held h (places_of h rows) (view_at c.args.c c.args.x.now c.args.d) c.args.v c.is_held.result (top_is h rows c.keeps.ensures sound c.args.c c.args.x.now c.args.d c.args.v c.requires.view c.requires.base c.is_held.result c.is_held.ensures) c.if-is_held.true

pub returns : goal.returns
returns g c =
    let h = c.args.h.now in
    let rows = g.L.SoundLayout.rows c.args.layout.now in
    let sound = g.met.L.SoundLayout.sound c.args.layout.now h c.requires.layout in
    c.class_table.ensures h (places_of h rows) c.requires.slots (base_known h c.keeps.ensures c.args.c c.args.x.now c.args.d c.args.v c.requires.view c.requires.base) (λ e. record { of = c.args.d; has = c.requires.base })
    ∙ top_stands h (places_of h rows) (view_at c.args.c c.args.x.now c.args.d) c.args.v c.is_held.result (top_is h rows c.keeps.ensures sound c.args.c c.args.x.now c.args.d c.args.v c.requires.view c.requires.base c.is_held.result c.is_held.ensures) (sym c.is_dynamic.ensures ∙ c.if-not-is_dynamic.false) c.if-is_held.false
