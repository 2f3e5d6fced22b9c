use Rattle.std.proofs.Common.{◌<◌}
use Rattle.cxx_hierarchy.specs.declared.records.ClassId.{ClassId}
use Rattle.cxx_hierarchy.specs.VirtualBases.{HasVirtualBase}
use Rattle.abi_slots.proofs.class_rows.is_virtual_base.Given as goal

abbrev pub invariant-loop-number : goal.invariant-loop-number
invariant-loop-number l = (d : ClassId) → d.0 < l.number → HasVirtualBase l.h d l.v → ⊥
