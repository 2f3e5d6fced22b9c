use Rattle.abi_tables.specs.invariants.Weights.{AreNumbersTo, virtual_word}
use Rattle.abi_tables.proofs.vtt_lengths.virtual_words.Given as goal

abbrev pub invariant-loop-n : goal.invariant-loop-n
invariant-loop-n g l = AreNumbersTo l.n (virtual_word l.h) l.words.items
