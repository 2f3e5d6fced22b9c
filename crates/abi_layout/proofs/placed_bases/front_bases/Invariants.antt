use Rattle.std.proofs.Common.{◌≡◌, ◌++◌, map, take}
use Rattle.std.specs.Prelude.{filter}
use Rattle.cxx_hierarchy.specs.declared.records.ClassId.{ClassId}
use Rattle.cxx_hierarchy.specs.declared.records.Base.{Base}
use Rattle.abi_layout.specs.declared.placed_bases.PlacedBase.TheVariants.{Own}
use Rattle.abi_layout.specs.PlacedBases.{first_base, is_other_base}
use Rattle.abi_layout.proofs.placed_bases.front_bases.Given as goal

-- the primary base, and the other bases so far
abbrev pub invariant-loop-base : goal.invariant-loop-base
invariant-loop-base l = l.front.items ≡ first_base l.primary ++ map (λ (base : Base ClassId). Own base.class) (filter (is_other_base l.primary) (take l.base-index l.bases))
