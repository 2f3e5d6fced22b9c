use Rattle.std.proofs.Common.{◌≡◌, ◌++◌, drop}
use Rattle.text_told.specs.Dumps.{lines_from}
use Rattle.text_told.proofs.dump.append_lines.Given as goal

-- the lines so far and those that are left make the whole
abbrev pub invariant-loop-item : goal.invariant-loop-item
invariant-loop-item l = l.text.items ++ lines_from l.end l.at (drop l.item-index l.items) ≡ l.fn.text.items ++ lines_from l.end 0 l.items
