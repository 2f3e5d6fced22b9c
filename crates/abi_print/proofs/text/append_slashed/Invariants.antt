use Rattle.std.proofs.Common.{◌≡◌, ◌++◌, take}
use Rattle.abi_print.specs.LayoutTexts.{slashed}
use Rattle.abi_print.proofs.text.append_slashed.Given as goal

-- the names so far stand behind the text
abbrev pub invariant-loop-c : goal.invariant-loop-c
invariant-loop-c l = l.text.items ≡ l.fn.text.items ++ slashed l.h (take l.c-index l.path)
