use Rattle.std.proofs.Common.{◌≡◌, ◌++◌, map, take}
use Rattle.abi_emptybase.specs.Table.{moved_part}
use Rattle.abi_layout.proofs.component.push_moved.Given as goal

-- the parts so far stand behind the others
abbrev pub invariant-loop-part : goal.invariant-loop-part
invariant-loop-part l = l.list ≡ l.fn.list ++ map (moved_part l.at) (take l.part-index l.parts)
