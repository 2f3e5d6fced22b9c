use Rattle.std.proofs.Common.{◌≡◌, ◌++◌, take}
use Rattle.std.specs.List.{flat_map}
use Rattle.abi_print.specs.TableTexts.{base_text}
use Rattle.abi_print.proofs.table_lines.append_info_bases.Given as goal

-- the lines so far stand behind the text
abbrev pub invariant-loop-base : goal.invariant-loop-base
invariant-loop-base g l = l.text.items ≡ l.fn.text.items ++ flat_map (base_text l.w.h.now) (take l.base-index l.bases)
