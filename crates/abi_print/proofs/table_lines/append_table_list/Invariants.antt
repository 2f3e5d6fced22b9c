use Rattle.std.proofs.Common.{◌≡◌, ◌++◌, take}
use Rattle.std.specs.List.{flat_map}
use Rattle.abi_print.specs.TableTexts.{table_text}
use Rattle.abi_print.proofs.table_lines.append_table_list.Given as goal

-- the lines so far stand behind the text
abbrev pub invariant-loop-table : goal.invariant-loop-table
invariant-loop-table g l = l.text.items ≡ l.fn.text.items ++ flat_map (table_text l.w.h.now) (take l.table-index l.tables)
