use Rattle.std.proofs.Common.{◌≡◌, ◌++◌, map, take}
use Rattle.text_told.specs.Pointers.{moved_pointer}
use Rattle.text_told.proofs.pointers.push_moved.Given as goal

abbrev pub invariant-loop-pointer : goal.invariant-loop-pointer
invariant-loop-pointer l = l.list.items ≡ l.fn.list.items ++ map (moved_pointer l.by) (take l.pointer-index l.inside)
