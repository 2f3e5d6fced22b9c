-- The values of the kinds of right sides, where these are typed and no rule refuses them, in every sight that the scene stands for.
use Rattle.std.specs.Prelude.{◌≡◌, ◌++◌, Bool, None, if◌then◌else◌, not}
use Rattle.cxx_hierarchy.specs.declared.records.ClassId.{ClassId}
use Rattle.cxx_hierarchy.specs.declared.records.FieldType.TheVariants.{Value as ValueField, Object}
use Rattle.cxx_hierarchy.specs.declared.records.ValueType.{ValueType}
use Rattle.cxx_hierarchy.specs.declared.records.ValueType.TheVariants.{Pointer as PointerType}
use Rattle.cxx_hierarchy.specs.Classes.{Classes}
use Rattle.cxx_program.specs.declared.operand.Argument.{Argument}
use Rattle.cxx_program.specs.declared.operand.Conversion.{Conversion}
use Rattle.cxx_program.specs.declared.operand.TypedOperand.{TypedOperand}
use Rattle.cxx_program.specs.declared.statement.TypedCast.{TypedCast}
use Rattle.cxx_program.specs.declared.statement.TypedPlace.{TypedPlace}
use Rattle.cxx_program.specs.declared.statement.TypedRight.{TypedRight}
use Rattle.cxx_program.specs.Typed.{Scope, Casts, HasRight, HasType, IsArgument, IsPlace}
use Rattle.path_model.specs.Values.{Sight, value_of_operand, argument_value}
use Rattle.path_model.specs.Places.{leaf_value, address_value}
use Rattle.path_model.specs.Uses.{argument_uses, cast_uses, cast_value, place_uses, right_uses}
use Rattle.path_model.specs.Rules.{is_clear, refused}
use Rattle.path_model.specs.Effects.{is_same_pointer, right_side_value, truth_as_number}
use Rattle.path_heap.specs.declared.heap.Heap.{Heap}
use Rattle.path_heap.specs.declared.state.Value.{Value as ValueCode}
use Rattle.path_heap.specs.Stands.{Means}
use Rattle.path_values.specs.declared.scene.Scene.{Scene}
use Rattle.path_values.specs.Scenes.{SceneStands}
use Rattle.path_values.specs.Given.{HasTypesOfScope}

-- the value of the leaf at a place
abbrev pub IsLeafValue : Classes → Heap → Scene → TypedPlace → ValueCode → Type 0
IsLeafValue h heap scene place code = (e : Scope) (s : Sight) (t : ValueType ClassId) →
    SceneStands h heap scene s → HasTypesOfScope h e s → IsPlace h e place (ValueField t) → refused h s.objects (place_uses s place) ≡ None →
    Means h s.objects.classes code (leaf_value s place (value_of_operand s place.pointer))

-- a pointer to the class member at a place
abbrev pub IsAddressValue : Classes → Heap → Scene → TypedPlace → ValueCode → Type 0
IsAddressValue h heap scene place code = (e : Scope) (s : Sight) (d : ClassId) →
    SceneStands h heap scene s → HasTypesOfScope h e s → IsPlace h e place (Object d) → refused h s.objects (place_uses s place) ≡ None →
    Means h s.objects.classes code (address_value place d (value_of_operand s place.pointer))

-- the value of a cast
abbrev pub IsCastValue : Classes → Heap → Scene → TypedCast → TypedOperand → ValueCode → Type 0
IsCastValue h heap scene cast x code = (e : Scope) (s : Sight) (c d : ClassId) →
    SceneStands h heap scene s → HasTypesOfScope h e s → HasType e x (PointerType c) → Casts h c cast d → refused h s.objects (cast_uses cast (value_of_operand s x)) ≡ None →
    Means h s.objects.classes code (cast_value h s.objects cast (value_of_operand s x))

-- whether two pointers, converted to one class, are the same, or where `differ` holds are not
abbrev pub IsPointerComparison : Classes → Heap → Scene → (differ : Bool) → (a b : Argument) → ValueCode → Type 0
IsPointerComparison h heap scene differ a b code = (e : Scope) (s : Sight) (c : ClassId) →
    SceneStands h heap scene s → HasTypesOfScope h e s → IsArgument h e a (PointerType c) → IsArgument h e b (PointerType c) → refused h s.objects (argument_uses s a ++ argument_uses s b) ≡ None →
    Means h s.objects.classes code (truth_as_number (if differ then not (is_same_pointer (argument_value s a) (argument_value s b)) else is_same_pointer (argument_value s a) (argument_value s b)))

-- the value of a right side before its conversion
abbrev pub IsSideValue : Classes → Heap → Scene → TypedRight → ValueCode → Type 0
IsSideValue h heap scene right code = (e : Scope) (s : Sight) (t : ValueType ClassId) (c : Conversion) →
    SceneStands h heap scene s → HasTypesOfScope h e s → HasRight h e right t → refused h s.objects (right_uses h (is_clear h s.objects) s right c) ≡ None →
    Means h s.objects.classes code (right_side_value h s right)
