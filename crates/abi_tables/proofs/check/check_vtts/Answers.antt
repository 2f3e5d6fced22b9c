use Rattle.std.proofs.Common.{◌<◌, inr, refl}
use Rattle.abi_sound.specs.Places.{places_of}
use Rattle.abi_tables.specs.Counts.{most_words, words_of_all_classes}
use Rattle.abi_tables.proofs.CheckLemmas.{past_all}
use Rattle.abi_tables.proofs.check.check_vtts.Goals as goal

pub returns-then-vtt_words-gt-MOST_WORDS-clause-right : goal.returns-then-vtt_words-gt-MOST_WORDS-clause-right
returns-then-vtt_words-gt-MOST_WORDS-clause-right g c =
    let h = c.args.h.now in
    let l = places_of h (g.L.SoundLayout.rows c.args.layout.now) in
    let past : most_words < words_of_all_classes h l = past_all h l c.vtt_words.result (c.vtt_words.ensures l c.in_ok-lengths.ensures) c.if-vtt_words-gt-MOST_WORDS.true in
    inr (refl, past)
