use Rattle.std.proofs.Common.{◌≡◌, ◌++◌, map, take}
use Rattle.abi_sound.specs.Places.{places_of}
use Rattle.text_told.specs.Dumps.{leaf_item}
use Rattle.text_told.proofs.items.push_leaves.Given as goal

abbrev pub invariant-loop-leaf : goal.invariant-loop-leaf
invariant-loop-leaf g l = l.items.items ≡ l.fn.items.items ++ map (leaf_item l.h (places_of l.h (g.L.SoundLayout.rows l.layout))) (take l.leaf-index l.leaves)
