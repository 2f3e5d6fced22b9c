use Rattle.abi_sound.specs.Places.{places_of}
use Rattle.abi_tables.specs.invariants.Weights.{sub_words}
use Rattle.abi_tables.proofs.NumberLemmas.{numbers_push}
use Rattle.abi_tables.proofs.vtt_lengths.sub_word_counts.Goals as goal

pub loop-n-preserved : goal.loop-n-preserved
loop-n-preserved g c =
    let h = c.args.h.now in
    numbers_push c.loop-n.n (sub_words h (places_of h (g.L.SoundLayout.rows c.args.layout.now))) c.loop-n.words.items c.push.new.self.items c.sub_word_count.result (c.sub_word_count.ensures c.requires.bases) c.in_ok-push.ensures.items c.loop-n.invariant
