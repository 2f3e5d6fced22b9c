use Rattle.std.proofs.Common.{ap, sym, ◌∙◌}
use Rattle.abi_sound.specs.Places.{places_of}
use Rattle.abi_tables.specs.Counts.{words_of_view}
use Rattle.abi_tables.specs.invariants.Weights.{cut}
use Rattle.abi_tables.proofs.check.words_of_view.Goals as goal

pub view_words-requires-clause-view : goal.view_words-requires-clause-view
view_words-requires-clause-view g c =
    let class = sym c.class_of.ensures ∙ c.in-Some.is in
    record { known = c.requires.known; valid = c.requires.valid; of_class = class; dynamic = c.requires.dynamic c.in-Some.d class }

pub returns-in-Some : goal.returns-in-Some
returns-in-Some g c =
    let h = c.args.h.now in
    let l = places_of h (g.L.SoundLayout.rows c.args.layout.now) in
    c.view_words.ensures ∙ ap (λ o. cut (words_of_view h l c.args.c c.args.x.now o)) (sym (sym c.class_of.ensures ∙ c.in-Some.is))

pub returns-in-None : goal.returns-in-None
returns-in-None g c =
    let h = c.args.h.now in
    let l = places_of h (g.L.SoundLayout.rows c.args.layout.now) in
    ap (λ o. cut (words_of_view h l c.args.c c.args.x.now o)) (sym (sym c.class_of.ensures ∙ c.in-None.is))
