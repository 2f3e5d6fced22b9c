use Rattle.std.proofs.Common.{◌≡◌, map, take}
use Rattle.std.specs.List.{find}
use Rattle.cxx_hierarchy.specs.declared.records.ClassId.{ClassId}
use Rattle.abi_primary.specs.PrimaryBase.{has_primary}
use Rattle.abi_foreign.proofs.row.holders.Given as goal

-- the holders of the virtual bases so far
abbrev pub invariant-loop-v : goal.invariant-loop-v
invariant-loop-v l = l.holders ≡ map (λ (v : ClassId). find (has_primary l.primaries v) l.list) (take l.v-index l.virtuals)
