use Rattle.std.proofs.Common.{◌≡◌, ◌++◌, drop}
use Rattle.std.specs.List.{concat}
use Rattle.abi_inspect.specs.SeenTexts.{AreValuesOf, row_lines}
use Rattle.abi_inspect.proofs.writing.append_rows.Given as goal

-- the text so far and the lines that are left make the whole, and the values that are left fit
abbrev pub invariant-loop-row : goal.invariant-loop-row
invariant-loop-row l =
    (l.text.items ++ concat (row_lines l.h (drop l.row-index l.rows) l.rest) ≡ l.fn.text.items ++ concat (row_lines l.h l.rows l.values))
    × AreValuesOf (drop l.row-index l.rows) l.rest
