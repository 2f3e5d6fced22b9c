use Rattle.std.proofs.Common.{◌≡◌}
use Rattle.abi_sound.specs.Places.{Places}
use Rattle.abi_tables.specs.Counts.{AreVttLengths, vtts_before_class}
use Rattle.abi_tables.specs.invariants.Weights.{cut}
use Rattle.abi_tables.proofs.check.vtt_words.Given as goal

-- the words of the VTTs of the classes so far
abbrev pub invariant-loop-n : goal.invariant-loop-n
invariant-loop-n l = (p : Places) → AreVttLengths l.h p l.lengths.lengths → l.sum ≡ cut (vtts_before_class l.h p l.n)
