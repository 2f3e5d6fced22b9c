use Rattle.std.proofs.Common.{◌≡◌, ℕ, false, length, get_or, take}
use Rattle.std.specs.List.{list_any}
use Rattle.cxx_hierarchy.specs.invariants.VirtualRows.{gives}
use Rattle.cxx_hierarchy.proofs.virtual_rows.row_of.Given as goal

-- the row has what the bases so far give
abbrev pub invariant-loop-base : goal.invariant-loop-base
invariant-loop-base l = record {
  size : length l.row.items ≡ length l.rows;
  marks : (v : ℕ) → get_or l.row.items v false ≡ list_any (gives l.public_only l.rows v) (take l.base-index l.bases);
}
