use Rattle.std.proofs.Common.{◌≡◌, ◌++◌, map}
use Rattle.std.specs.List.{range_with_len}
use Rattle.text_bytes.specs.LeafRows.{value_row}
use Rattle.text_bytes.proofs.rows.push_values.Given as goal

-- the elements so far stand behind the others
abbrev pub invariant-loop-i : goal.invariant-loop-i
invariant-loop-i l = l.rows.items ≡ l.fn.rows.items ++ map (value_row l.x l.member l.size) (range_with_len 0 l.i)
