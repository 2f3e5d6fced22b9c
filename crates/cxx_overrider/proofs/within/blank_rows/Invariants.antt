use Rattle.std.proofs.Common.{◌≡◌, ℕ, false, length}
use Rattle.cxx_hierarchy.specs.declared.records.ClassId.{ClassId}
use Rattle.cxx_overrider.specs.invariants.Marks.{mark_of}
use Rattle.cxx_overrider.proofs.within.blank_rows.Given as goal

abbrev pub invariant-loop : goal.invariant-loop
invariant-loop l = record { size : length l.rows.items ≡ l.counter; blank : (c : ClassId) (n : ℕ) → mark_of l.rows.items c n ≡ false }
