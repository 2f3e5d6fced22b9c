use Rattle.std.proofs.Common.{ℕ}
use Rattle.cxx_hierarchy.specs.declared.records.ClassId.{ClassId}
use Rattle.abi_sound.specs.Places.{places_of}
use Rattle.abi_tables.specs.invariants.Weights.{AreNumbers, AreNumbersTo, sides}
use Rattle.abi_tables.proofs.numbers.side_sums.Given as goal

abbrev pub invariant-loop-n : goal.invariant-loop-n
invariant-loop-n g l = (f : ClassId → ℕ) → AreNumbers l.h f l.heads → AreNumbersTo l.n (sides l.h (places_of l.h (g.L.SoundLayout.rows l.layout)) f) l.sums.items
