use Rattle.std.proofs.Common.{◌≡◌, map, take, get_or, None}
use Rattle.cxx_hierarchy.specs.declared.records.ClassId.{ClassId}
use Rattle.abi_layout.specs.invariants.Settled.{held_at}
use Rattle.abi_layout.proofs.laid_row.holder_list.Given as goal

-- the holders of the virtual bases so far
abbrev pub invariant-loop-v : goal.invariant-loop-v
invariant-loop-v l = l.held ≡ map (λ (v : ClassId). held_at l.list (get_or l.holders v.0 None)) (take l.v-index l.virtuals)
