-- Where the paths of calls and places lead in the code, over every state of the objects that the heap stands for.
use Rattle.std.specs.Prelude.{◌≡◌, ℕ, Some, [], ◌∷◌, ◌++◌}
use Rattle.cxx_hierarchy.specs.declared.records.ClassId.{ClassId}
use Rattle.cxx_hierarchy.specs.declared.records.FieldType.TheVariants.{Value as ValueField, Object}
use Rattle.cxx_hierarchy.specs.declared.records.ValueType.{ValueType}
use Rattle.cxx_hierarchy.specs.Classes.{Classes}
use Rattle.cxx_subobject.specs.Locations.{ObjectPart, IsElement}
use Rattle.cxx_subobject.specs.Subobjects.{class_of}
use Rattle.cxx_program.specs.declared.statement.TypedCall.{TypedCall}
use Rattle.cxx_program.specs.declared.statement.TypedPlace.{TypedPlace}
use Rattle.path_model.specs.Places.{end_part, last_passed, leaf_at}
use Rattle.path_model.specs.Uses.{goes_to, receiver_value}
use Rattle.path_model.specs.Values.{Objects, Sight, value_of_operand}
use Rattle.path_heap.specs.declared.heap.Heap.{Heap}
use Rattle.path_heap.specs.declared.state.Value.{Value as ValueCode}
use Rattle.path_heap.specs.Points.{Points, PointsLeaf}
use Rattle.path_heap.specs.Stands.{HeapStands, Means}
use Rattle.path_values.specs.declared.scene.Scene.{Scene}
use Rattle.path_values.specs.Conversions.{CanReach, CanGo}
use Rattle.path_values.specs.Open.{IsOpen}
use Rattle.path_values.specs.Scenes.{SceneStands}

-- a pointer to the subobject of the class in which a call's function was found, where its pointer can be moved there
abbrev pub IsCallReceiver : Classes → Heap → Scene → TypedCall → ValueCode → Type 0
IsCallReceiver h heap scene call code = (s : Sight) →
    SceneStands h heap scene s → CanGo h s.objects (value_of_operand s call.pointer) call.qualifier → CanReach h s.objects (goes_to call.qualifier (value_of_operand s call.pointer)) call.base →
    Means h s.objects.classes code (receiver_value s call)

-- the number of the leaf to which a place leads from the part of number n, where its path is open
abbrev pub IsLeafNumber : Classes → Heap → (n : ℕ) → TypedPlace → (leaf : ℕ) → Type 0
IsLeafNumber h heap n place leaf = (s : Objects) (p : ObjectPart) (c d : ClassId) (t : ValueType ClassId) →
    HeapStands h heap s → Points h s.classes n p → IsOpen h s p c place.passed place.base → class_of place.base ≡ Some d → IsElement h d place.member place.index (ValueField t) →
    PointsLeaf h s.classes leaf (leaf_at p place)

-- the number of the class member that a place is, from the part of number n, where its path is open
abbrev pub IsAddressNumber : Classes → Heap → (n : ℕ) → TypedPlace → (number : ℕ) → Type 0
IsAddressNumber h heap n place number = (s : Objects) (p : ObjectPart) (c d e : ClassId) →
    HeapStands h heap s → Points h s.classes n p → IsOpen h s p c place.passed place.base → class_of place.base ≡ Some e → IsElement h e place.member place.index (Object d) →
    Points h s.classes number (end_part p (place.passed ++ last_passed place d ∷ []))
