use Rattle.cxx_overrider.specs.invariants.Within.{IsAnswered}
use Rattle.cxx_overrider.specs.invariants.Marks.{IsMarkRow}
use Rattle.cxx_overrider.specs.invariants.Parts.{numbers_of}
use Rattle.cxx_overrider.proofs.within.part_row.Given as goal

-- the row marks the numbers so far
abbrev pub invariant-loop-n : goal.invariant-loop-n
invariant-loop-n l = IsMarkRow l.next.signatures.now.h.now (numbers_of l.next.signatures.now) l.n (IsAnswered l.next.signatures.now.h.now l.fn.question l.next.c) l.row
