use Rattle.abi_sound.specs.Places.{places_of}
use Rattle.abi_tables.specs.invariants.Weights.{AreNumbersTo, head_words}
use Rattle.abi_tables.proofs.view_words.head_word_counts.Given as goal

abbrev pub invariant-loop-n : goal.invariant-loop-n
invariant-loop-n g l = AreNumbersTo l.n (head_words l.h (places_of l.h (g.L.SoundLayout.rows l.layout))) l.words.items
