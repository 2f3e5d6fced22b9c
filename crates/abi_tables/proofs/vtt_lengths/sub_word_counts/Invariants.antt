use Rattle.abi_sound.specs.Places.{places_of}
use Rattle.abi_tables.specs.invariants.Weights.{AreNumbersTo, sub_words}
use Rattle.abi_tables.proofs.vtt_lengths.sub_word_counts.Given as goal

abbrev pub invariant-loop-n : goal.invariant-loop-n
invariant-loop-n g l = AreNumbersTo l.n (sub_words l.h (places_of l.h (g.L.SoundLayout.rows l.layout))) l.words.items
