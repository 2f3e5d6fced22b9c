use Rattle.std.proofs.Common.{◌≡◌, ◌+◌, take}
use Rattle.abi_foreign.specs.invariants.Said.{AreBasesRead}
use Rattle.abi_foreign.proofs.class_lines.read_bases.Given as goal

-- the lines of the base subobjects so far are read
abbrev pub invariant-loop-s : goal.invariant-loop-s
invariant-loop-s l = AreBasesRead l.h (take l.s-index l.list) l.start.rest.now l.places l.cursor.rest.now × (l.cursor.line ≡ l.start.line + l.s-index)
