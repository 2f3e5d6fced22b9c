use Rattle.std.proofs.Common.{◌≡◌}
use Rattle.abi_sound.specs.Places.{places_of}
use Rattle.abi_tables.specs.Counts.{words_before_class}
use Rattle.abi_tables.specs.invariants.Weights.{cut}
use Rattle.abi_tables.proofs.check.all_words.Given as goal

abbrev pub invariant-loop-n : goal.invariant-loop-n
invariant-loop-n g l = l.sum ≡ cut (words_before_class l.h (places_of l.h (g.L.SoundLayout.rows l.layout)) l.n)
