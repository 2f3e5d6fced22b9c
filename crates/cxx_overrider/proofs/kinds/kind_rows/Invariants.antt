use Rattle.std.proofs.Common.{◌≡◌, length}
use Rattle.cxx_overrider.specs.invariants.Kinds.{AreKinds}
use Rattle.cxx_overrider.proofs.kinds.kind_rows.Given as goal

abbrev pub invariant-loop-number : goal.invariant-loop-number
invariant-loop-number l = record { size : length l.rows.items ≡ l.number; kinds : AreKinds l.h l.rows.items }
