use Rattle.std.proofs.Common.{◌≡◌, drop}
use Rattle.abi_print.specs.TableTexts.{group_of}
use Rattle.abi_print.proofs.table_lines.group_number.Given as goal

-- the groups so far are not of the word
abbrev pub invariant-loop-number : goal.invariant-loop-number
invariant-loop-number l = group_of (drop l.number l.groups) l.word ≡ group_of l.groups l.word
