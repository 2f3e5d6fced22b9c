-- The test that a view is the whole of its complete object.
use Rattle.std.specs.Prelude.{Bool, false, nat_eq, List, length}
use Rattle.cxx_hierarchy.specs.declared.records.ClassId.{ClassId}
use Rattle.cxx_subobject.specs.declared.Root.{Root}
use Rattle.cxx_subobject.specs.declared.Root.TheVariants.{Whole, Shared}
use Rattle.cxx_subobject.specs.declared.Subobject.{Subobject}

abbrev pub is_whole_by : Root → List ClassId → Bool
is_whole_by Whole path = nat_eq (length path) 1
is_whole_by (Shared v) path = false

-- the subobject is the whole
abbrev pub is_whole_view : Subobject → Bool
is_whole_view s = is_whole_by s.root s.path
