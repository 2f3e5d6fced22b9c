use Rattle.std.proofs.Common.{◌≡◌, map, take}
use Rattle.std.specs.Prelude.{filter}
use Rattle.cxx_hierarchy.specs.declared.records.ClassId.{ClassId}
use Rattle.abi_primary.specs.Holder.{holder_of}
use Rattle.abi_layout.specs.declared.placed_bases.PlacedBase.TheVariants.{VirtualBase}
use Rattle.abi_layout.specs.PlacedBases.{is_free}
use Rattle.abi_layout.proofs.placed_bases.free_bases.Given as goal

-- the free ones so far
abbrev pub invariant-loop-v : goal.invariant-loop-v
invariant-loop-v l = l.free.items ≡ map (λ (w : ClassId). VirtualBase w) (filter (λ w. is_free (holder_of l.scene.h.now l.scene.primaries.now l.scene.c w)) (take l.v-index l.virtuals))
