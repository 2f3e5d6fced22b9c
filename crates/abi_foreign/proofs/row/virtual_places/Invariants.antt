use Rattle.std.proofs.Common.{◌≡◌, map, take}
use Rattle.cxx_hierarchy.specs.declared.records.ClassId.{ClassId}
use Rattle.cxx_subobject.specs.Subobjects.{shared_base}
use Rattle.abi_foreign.specs.invariants.Rows.{said_base_place}
use Rattle.abi_foreign.proofs.row.virtual_places.Given as goal

-- the places of the virtual bases so far
abbrev pub invariant-loop-v : goal.invariant-loop-v
invariant-loop-v l = l.places ≡ map (λ (v : ClassId). said_base_place l.said (shared_base v)) (take l.v-index l.virtuals)
