use Rattle.std.proofs.Common.{◌≡◌, length}
use Rattle.cxx_hierarchy.specs.invariants.VirtualRows.{AreRows}
use Rattle.cxx_hierarchy.proofs.virtual_rows.virtual_rows.Given as goal

-- there are rows for the classes so far
abbrev pub invariant-loop-class : goal.invariant-loop-class
invariant-loop-class l = record {
  size : length l.rows.items ≡ l.class-index;
  rows : AreRows l.classes l.public_only l.rows.items;
}
