use Rattle.std.proofs.Common.{◌≡◌, ◌++◌, map, filter, drop}
use Rattle.abi_slots.specs.Rows.{class_of_base}
use Rattle.abi_rtti.specs.TypeInfos.{is_virtual_base}
use Rattle.abi_rtti.proofs.walk.push_named.Given as goal

abbrev pub invariant-loop-base : goal.invariant-loop-base
invariant-loop-base l = l.edges.items ++ map class_of_base (filter is_virtual_base (drop l.base-index l.bases)) ≡ l.initial.edges.items ++ map class_of_base (filter is_virtual_base l.bases)
