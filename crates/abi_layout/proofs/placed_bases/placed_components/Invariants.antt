use Rattle.std.proofs.Common.{◌≡◌, map, take}
use Rattle.abi_layout.specs.invariants.Known.{empties_in, known_parts_of}
use Rattle.abi_layout.specs.PlacedBases.{placed_component}
use Rattle.abi_layout.proofs.placed_bases.placed_components.Given as goal

-- the components of the bases so far
abbrev pub invariant-loop-base : goal.invariant-loop-base
invariant-loop-base l = l.components.items ≡ map (placed_component (empties_in l.scene.known.now) l.scene.h.now l.scene.rows.now l.scene.primaries.now (known_parts_of l.scene.known.now) l.scene.c) (take l.base-index l.bases)
