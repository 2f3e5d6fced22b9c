use Rattle.std.proofs.Common.{◌≡◌, map, take, get_or}
use Rattle.cxx_hierarchy.specs.declared.records.ClassId.{ClassId}
use Rattle.abi_layout.proofs.virtual_places.table_places.Given as goal

-- the places of the classes so far
abbrev pub invariant-loop-v : goal.invariant-loop-v
invariant-loop-v l = l.places ≡ map (λ (v : ClassId). get_or l.table v.0 0) (take l.v-index l.virtuals)
