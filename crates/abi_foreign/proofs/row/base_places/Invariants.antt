use Rattle.std.proofs.Common.{◌≡◌, map, filter, take}
use Rattle.cxx_hierarchy.specs.declared.records.Base.{Base}
use Rattle.cxx_hierarchy.specs.declared.records.ClassId.{ClassId}
use Rattle.cxx_hierarchy.specs.Declarations.{is_plain_base}
use Rattle.abi_foreign.specs.invariants.Rows.{said_base_place, direct_base}
use Rattle.abi_foreign.proofs.row.base_places.Given as goal

-- the places of the bases so far
abbrev pub invariant-loop-base : goal.invariant-loop-base
invariant-loop-base l = l.places ≡ map (λ (b : Base ClassId). said_base_place l.said (direct_base l.c b.class)) (filter is_plain_base (take l.base-index l.bases))
