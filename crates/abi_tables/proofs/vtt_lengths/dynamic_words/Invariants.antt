use Rattle.abi_tables.specs.invariants.Weights.{AreNumbersTo, dynamic_word}
use Rattle.abi_tables.proofs.vtt_lengths.dynamic_words.Given as goal

abbrev pub invariant-loop-n : goal.invariant-loop-n
invariant-loop-n l = AreNumbersTo l.n (dynamic_word l.h) l.words.items
