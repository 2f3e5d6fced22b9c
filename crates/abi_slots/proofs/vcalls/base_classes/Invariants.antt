use Rattle.std.proofs.Common.{◌≡◌, ◌++◌, map, drop}
use Rattle.std.specs.List.{filter}
use Rattle.abi_slots.specs.Rows.{is_chosen, class_of_base}
use Rattle.abi_slots.proofs.vcalls.base_classes.Given as goal

abbrev pub invariant-loop-base : goal.invariant-loop-base
invariant-loop-base l = l.list.items ++ map class_of_base (filter (is_chosen l.primary l.is_first) (drop l.base-index l.bases)) ≡ map class_of_base (filter (is_chosen l.primary l.is_first) l.bases)
