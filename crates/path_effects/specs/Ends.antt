-- What `delete` ends.
use Rattle.std.specs.Prelude.{◌≡◌, Option, Some, None, List, slice_get}
use Rattle.cxx_hierarchy.specs.declared.records.ClassId.{ClassId}
use Rattle.cxx_hierarchy.specs.Classes.{Classes}
use Rattle.path_plan.specs.Places.{ObjectPart}
use Rattle.path_plan.specs.Whole.{whole_part}
use Rattle.path_model.specs.Values.{Value, Null, Pointer}
use Rattle.path_heap.specs.declared.state.NumberedPart.{NumberedPart}
use Rattle.path_heap.specs.Points.{StandsForPart}

-- the value names a part, and the code the whole of its heap object
pub record EndsObject (h : Classes) (classes : List ClassId) (code : NumberedPart) (v : Value) : Type 0 where
  pub part : ObjectPart
  pub is : v ≡ Pointer part
  pub class : ClassId
  pub made : slice_get classes part.object ≡ Some class
  pub whole : StandsForPart h classes code (whole_part part.object class)

-- `delete` of null ends nothing
abbrev pub Ends : Classes → List ClassId → Option NumberedPart → Value → Type 0
Ends h classes None v = v ≡ Null
Ends h classes (Some code) v = EndsObject h classes code v
