use Rattle.std.proofs.Common.{◌≡◌, ◌++◌, map, take}
use Rattle.text_bytes.specs.LeafRows.{inner_row}
use Rattle.text_bytes.proofs.rows.push_inner.Given as goal

abbrev pub invariant-loop-row : goal.invariant-loop-row
invariant-loop-row l = l.rows.items ≡ l.fn.rows.items ++ map (inner_row l.place l.name) (take l.row-index l.inside)
