use Rattle.std.proofs.Common.{◌≡◌, List, Some, length}
use Rattle.std.specs.Prelude.{slice_get}
use Rattle.cxx_hierarchy.specs.declared.records.ClassId.{ClassId}
use Rattle.cxx_overrider.specs.declared.FunctionId.{FunctionId}
use Rattle.cxx_overrider.specs.Virtuals.{own}
use Rattle.abi_slots.proofs.class_rows.own_of_each.Given as goal

abbrev pub invariant-loop-number : goal.invariant-loop-number
invariant-loop-number l = record {
  size : length l.lists.items ≡ l.number;
  each : (c : ClassId) (list : List FunctionId) → slice_get l.lists.items c.0 ≡ Some list → list ≡ own l.h c;
}
