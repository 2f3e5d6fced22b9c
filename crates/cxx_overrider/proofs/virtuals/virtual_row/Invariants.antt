use Rattle.cxx_overrider.specs.Overriding.{HasVirtual}
use Rattle.cxx_overrider.specs.invariants.Marks.{IsMarkRow}
use Rattle.cxx_overrider.proofs.virtuals.virtual_row.Given as goal

-- the row marks the numbers so far
abbrev pub invariant-loop-n : goal.invariant-loop-n
invariant-loop-n l = IsMarkRow l.h l.numbering.rows.items l.n (HasVirtual l.h l.fn.c) l.row
