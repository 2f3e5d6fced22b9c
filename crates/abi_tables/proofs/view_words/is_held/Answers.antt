use Rattle.std.proofs.Common.{ap, sym, ◌∙◌}
use Rattle.std.specs.Option.{option_copied}
use Rattle.abi_sound.specs.Places.{places_of}
use Rattle.abi_tables.proofs.ViewLemmas.{holder_valid, held_some, held_none}
use Rattle.abi_tables.proofs.view_words.is_held.Goals as goal

pub contains-requires-clause-inner : goal.contains-requires-clause-inner
contains-requires-clause-inner g c =
    let rows = g.L.SoundLayout.rows c.args.layout.now in
    holder_valid c.args.h.now rows c.keeps.ensures (g.met.L.SoundLayout.sound c.args.layout.now c.args.h.now c.requires.layout) c.args.c c.args.v c.in-Some.holder.now c.requires.known c.requires.base (sym c.holder.ensures ∙ ap option_copied c.in-Some.is)

pub returns-in-Some : goal.returns-in-Some
returns-in-Some g c =
    let l = places_of c.args.h.now (g.L.SoundLayout.rows c.args.layout.now) in
    held_some c.args.h.now l c.args.c c.args.x.now c.args.v c.in-Some.holder.now c.contains.result (sym c.holder.ensures ∙ ap option_copied c.in-Some.is) c.contains.ensures

pub returns-in-None : goal.returns-in-None
returns-in-None g c =
    let l = places_of c.args.h.now (g.L.SoundLayout.rows c.args.layout.now) in
    held_none c.args.h.now l c.args.c c.args.x.now c.args.v (sym c.holder.ensures ∙ ap option_copied c.in-None.is)
