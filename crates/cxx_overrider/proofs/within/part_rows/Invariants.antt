use Rattle.std.proofs.Common.{◌≡◌, length}
use Rattle.cxx_overrider.specs.invariants.Within.{IsAnswered}
use Rattle.cxx_overrider.specs.invariants.Marks.{AreMarks}
use Rattle.cxx_overrider.specs.invariants.Parts.{numbers_of}
use Rattle.cxx_overrider.proofs.within.part_rows.Given as goal

abbrev pub invariant-loop-number : goal.invariant-loop-number
invariant-loop-number l = record { size : length l.rows.items ≡ l.number; marks : AreMarks l.signatures.h.now (numbers_of l.signatures) (IsAnswered l.signatures.h.now l.fn.question) l.rows.items }
