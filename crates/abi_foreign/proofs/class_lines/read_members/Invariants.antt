use Rattle.std.proofs.Common.{◌≡◌, ◌+◌, take}
use Rattle.abi_foreign.specs.invariants.Said.{AreMembersRead}
use Rattle.abi_foreign.proofs.class_lines.read_members.Given as goal

-- the lines of the members so far are read
abbrev pub invariant-loop-member : goal.invariant-loop-member
invariant-loop-member l = AreMembersRead l.h (take l.member-index l.members) l.start.rest.now l.places l.cursor.rest.now × (l.cursor.line ≡ l.start.line + l.member-index)
