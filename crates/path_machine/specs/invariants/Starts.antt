-- The values with which globals start, as the code has them.
use Rattle.std.specs.Prelude.{pos}
use Rattle.cxx_hierarchy.specs.declared.records.ClassId.{ClassId}
use Rattle.cxx_hierarchy.specs.declared.records.ValueType.{ValueType}
use Rattle.cxx_hierarchy.specs.declared.records.ValueType.TheVariants.{Number as NumberType, Pointer as PointerType}
use Rattle.path_heap.specs.declared.state.Value.{Value}
use Rattle.path_heap.specs.declared.state.Value.TheVariants.{Number, Null}

-- 0, or null
abbrev pub start_code : ValueType ClassId → Value
start_code (NumberType t) = Number (pos 0)
start_code (PointerType c) = Null
