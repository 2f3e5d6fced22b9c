-- The elements of a member, by the first of them.
use Rattle.std.specs.Prelude.{ℕ, ◌+◌, ◌*◌}
use Rattle.abi_judge.specs.declared.things.Thing.{Thing}
use Rattle.abi_judge.specs.declared.things.Thing.TheVariants.{Leaf}
use Rattle.abi_judge.specs.declared.things.PlacedLeaf.{PlacedLeaf}

-- the element of a number, of which the first one lies so
abbrev pub leaf_from : PlacedLeaf → ℕ → Thing
leaf_from first i = Leaf (record { place = first.place + i * first.size; first = first.first; size = first.size; width = first.width })
