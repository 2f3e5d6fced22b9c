-- What the code computes and changes for what is typed and what no rule refuses, in every sight that the scene stands for.
use Rattle.std.specs.Prelude.{◌≡◌, ℕ, Option, None, List, map}
use Rattle.std.specs.List.{AllZip, flat_map}
use Rattle.cxx_hierarchy.specs.declared.records.ClassId.{ClassId}
use Rattle.cxx_hierarchy.specs.declared.records.Function.{Function}
use Rattle.cxx_hierarchy.specs.declared.records.ValueType.{ValueType}
use Rattle.cxx_hierarchy.specs.Classes.{Classes}
use Rattle.cxx_subobject.specs.Locations.{ObjectPart}
use Rattle.cxx_program.specs.declared.operand.Argument.{Argument}
use Rattle.cxx_program.specs.declared.operand.TypedOperand.{TypedOperand}
use Rattle.cxx_program.specs.declared.statement.Converted.{Converted}
use Rattle.cxx_program.specs.declared.statement.TypedCall.{TypedCall}
use Rattle.cxx_program.specs.declared.statement.TypedKind.TheVariants.{Copy, Write}
use Rattle.cxx_program.specs.declared.statement.TypedPlace.{TypedPlace}
use Rattle.cxx_program.specs.Typed.{Types, Scope, IsArgument, IsKept, IsCall, IsConverted, IsTyped}
use Rattle.path_model.specs.Values.{Pointer, Sight, value_of_operand, argument_value, converted_to}
use Rattle.path_model.specs.Places.{leaf_at}
use Rattle.path_model.specs.Uses.{Wanted, argument_uses, call_uses, receiver_value, right_uses}
use Rattle.path_model.specs.Rules.{is_clear, refused, statement_refusal}
use Rattle.path_model.specs.Effects.{copied, leaf_set, right_side_value, runs}
use Rattle.path_heap.specs.declared.heap.Heap.{Heap}
use Rattle.path_heap.specs.declared.state.Value.{Value as ValueCode}
use Rattle.path_heap.specs.Stands.{HeapStands, Means}
use Rattle.path_values.specs.declared.scene.Scene.{Scene}
use Rattle.path_values.specs.Scenes.{SceneStands}
use Rattle.path_values.specs.Given.{HasTypesOfScope}
use Rattle.path_values.specs.declared.views.Found.{Found}
use Rattle.path_values.specs.Views.{RunsByView}

-- the value of an argument, whatever keeps it
abbrev pub IsArgumentValue : Classes → Heap → Scene → Argument → ValueCode → Type 0
IsArgumentValue h heap scene a code = (e : Scope) (s : Sight) (width : Option ℕ) (t : ValueType ClassId) →
    SceneStands h heap scene s → HasTypesOfScope h e s → IsKept h e width a t → refused h s.objects (argument_uses s a) ≡ None →
    Means h s.objects.classes code (argument_value s a)

-- the values of the arguments of a call, in their order
abbrev pub AreArgumentValues : Classes → Heap → Scene → List Argument → List ValueCode → Type 0
AreArgumentValues h heap scene list codes = (e : Scope) (s : Sight) (types : Types) →
    SceneStands h heap scene s → HasTypesOfScope h e s → AllZip (IsArgument h e) list types → refused h s.objects (flat_map (argument_uses s) list) ≡ None →
    AllZip (Means h s.objects.classes) codes (map (argument_value s) list)

-- the function that a call runs, and its `this`
abbrev pub IsCallRun : Classes → Heap → Scene → TypedCall → Option Found → Type 0
IsCallRun h heap scene call found = (e : Scope) (s : Sight) (f : Function ClassId) (p : ObjectPart) →
    SceneStands h heap scene s → HasTypesOfScope h e s → IsCall h e call f → refused h s.objects (call_uses s call) ≡ None → receiver_value s call ≡ Pointer p →
    RunsByView h s.objects.classes found (runs h s.objects call p)

-- the value of a right side, converted
abbrev pub IsRightValue : Classes → Heap → Scene → Converted → ValueCode → Type 0
IsRightValue h heap scene x code = (e : Scope) (s : Sight) (t : ValueType ClassId) →
    SceneStands h heap scene s → HasTypesOfScope h e s → IsConverted h e x t → refused h s.objects (right_uses h (is_clear h s.objects) s x.right x.conversion) ≡ None →
    Means h s.objects.classes code (converted_to (right_side_value h s x.right) x.conversion)

-- the leaf at a place takes the value of an argument, and nothing else changes
abbrev pub WritesLeaf : Classes → (old new : Heap) → Scene → TypedPlace → Argument → Type 0
WritesLeaf h old new scene place x = (e : Scope) (s : Sight) (w : Wanted) (p : ObjectPart) →
    SceneStands h old scene s → HasTypesOfScope h e s → IsTyped h e (Write place x) → statement_refusal h s w (Write place x) ≡ None → value_of_operand s place.pointer ≡ Pointer p →
    HeapStands h new (leaf_set s.objects (leaf_at p place) (argument_value s x))

-- the leaves of one part of class c take the old values of those of the other, and nothing else changes
abbrev pub CopiesLeaves : Classes → (old new : Heap) → Scene → (to from : TypedOperand) → ClassId → Type 0
CopiesLeaves h old new scene to from c = (e : Scope) (s : Sight) (w : Wanted) (p q : ObjectPart) →
    SceneStands h old scene s → HasTypesOfScope h e s → IsTyped h e (Copy to from c) → statement_refusal h s w (Copy to from c) ≡ None → value_of_operand s to ≡ Pointer p → value_of_operand s from ≡ Pointer q →
    HeapStands h new (copied h c p q s.objects)
