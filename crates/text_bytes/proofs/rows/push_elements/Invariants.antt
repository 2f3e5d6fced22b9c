use Rattle.std.proofs.Common.{◌≡◌, ◌++◌}
use Rattle.std.specs.List.{flat_map, range_with_len}
use Rattle.text_bytes.specs.LeafRows.{element_rows}
use Rattle.text_bytes.proofs.rows.push_elements.Given as goal

-- the leaves of the elements so far stand behind the others
abbrev pub invariant-loop-i : goal.invariant-loop-i
invariant-loop-i l = l.rows.items ≡ l.fn.rows.items ++ flat_map (element_rows l.x l.member l.size l.inside) (range_with_len 0 l.i)
