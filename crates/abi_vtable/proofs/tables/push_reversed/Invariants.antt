use Rattle.std.proofs.Common.{◌≡◌, ◌++◌, ◌-◌, length, drop, reverse}
use Rattle.abi_vtable.proofs.tables.push_reversed.Given as goal

abbrev pub invariant-loop-i : goal.invariant-loop-i
invariant-loop-i l = l.words ≡ l.initial.words ++ reverse (drop (length l.more - l.i) l.more)
