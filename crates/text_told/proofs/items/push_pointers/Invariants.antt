use Rattle.std.proofs.Common.{◌≡◌, ◌++◌, map, take}
use Rattle.text_told.specs.Dumps.{pointer_item}
use Rattle.text_told.proofs.items.push_pointers.Given as goal

abbrev pub invariant-loop-pointer : goal.invariant-loop-pointer
invariant-loop-pointer l = l.items.items ≡ l.fn.items.items ++ map (pointer_item l.h) (take l.pointer-index l.pointers)
