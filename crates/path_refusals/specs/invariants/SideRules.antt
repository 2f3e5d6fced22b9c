-- What the functions on calls, right sides and results tell: the first rule that is broken, of what is typed.
use Rattle.std.specs.Prelude.{◌≡◌, ℕ, ◌<◌, Bool, false, Option, Some, None, ◌∷◌, ◌++◌}
use Rattle.cxx_hierarchy.specs.declared.records.ClassId.{ClassId}
use Rattle.cxx_hierarchy.specs.declared.records.FieldType.TheVariants.{Value as ValueField, Object}
use Rattle.cxx_hierarchy.specs.declared.records.ValueType.{ValueType}
use Rattle.cxx_hierarchy.specs.declared.records.ValueType.TheVariants.{Pointer as PointerType}
use Rattle.cxx_hierarchy.specs.Classes.{Classes}
use Rattle.cxx_subobject.specs.Locations.{ObjectPart}
use Rattle.cxx_subobject.specs.Subobjects.{class_of}
use Rattle.cxx_program.specs.declared.operand.Argument.{Argument}
use Rattle.cxx_program.specs.declared.operand.Conversion.{Conversion}
use Rattle.cxx_program.specs.declared.operand.TypedOperand.{TypedOperand}
use Rattle.cxx_program.specs.declared.statement.TypedCall.{TypedCall}
use Rattle.cxx_program.specs.declared.statement.TypedCast.{TypedCast}
use Rattle.cxx_program.specs.declared.statement.TypedKind.TheVariants.{Return}
use Rattle.cxx_program.specs.declared.statement.TypedPlace.{TypedPlace}
use Rattle.cxx_program.specs.declared.statement.TypedRight.{TypedRight}
use Rattle.cxx_program.specs.declared.statement.TypedRight.TheVariants.{Read, Address, Cast}
use Rattle.cxx_program.specs.Typed.{Scope, Casts, HasRight, HasType, IsPlace, IsWay}
use Rattle.path_rules.specs.declared.Undefined.{Undefined}
use Rattle.path_plan.specs.Views.{Settled}
use Rattle.path_model.specs.Values.{Value, Pointer, Objects, Sight}
use Rattle.path_model.specs.Places.{leaf_value, address_value}
use Rattle.path_model.specs.Uses.{Passes, Wanted, arrow, cast_value, convert, return_uses, right_uses}
use Rattle.path_model.specs.Order.{asked_covers}
use Rattle.path_model.specs.Rules.{is_clear, is_unready, names, refused, statement_refusal}
use Rattle.path_model.specs.Typed.{AllSettled, IsReturn}
use Rattle.path_heap.specs.declared.heap.Heap.{Heap}
use Rattle.path_heap.specs.declared.state.Value.{Value as ValueCode}
use Rattle.path_heap.specs.Points.{Points}
use Rattle.path_heap.specs.Stands.{HeapStands, Means}
use Rattle.path_values.specs.declared.scene.Scene.{Scene}
use Rattle.path_values.specs.Scenes.{SceneStands}
use Rattle.path_values.specs.Given.{IsGiven}
use Rattle.path_refusals.specs.invariants.Pieces.{SightStands, IsReadyPart, MeansValueOf, IsFoundCall, TellsReadiness, way_asked, found_asked, way_uses}

-- calls

-- of a call, from the subobject of the class before `::`, or of the pointer's, on: it is no pointer to a part that is not ready
abbrev pub FoundRefuses : Classes → Heap → ValueCode → TypedCall → Option Undefined → Type 0
FoundRefuses h heap v call rule = (s : Objects) (x : Value) (through : ClassId) →
    MeansValueOf h heap s v x through → names (is_unready s) x ≡ false → IsFoundCall h through call →
    rule ≡ refused h s (found_asked call x)

-- of a call, behind the arrow of its pointer: this is no pointer to a part that is not ready
abbrev pub WayRefuses : Classes → Heap → ValueCode → TypedCall → Option Undefined → Type 0
WayRefuses h heap v call rule = (s : Objects) (x : Value) (through : ClassId) →
    MeansValueOf h heap s v x call.class → names (is_unready s) x ≡ false → IsWay h call.class call.qualifier through → IsFoundCall h through call →
    rule ≡ refused h s (way_asked call x)

-- of a call, with the arrow of its pointer
abbrev pub CallPointerRefuses : Classes → Heap → ValueCode → TypedCall → Option Undefined → Type 0
CallPointerRefuses h heap v call rule = (s : Objects) (x : Value) (through : ClassId) →
    MeansValueOf h heap s v x call.class → IsWay h call.class call.qualifier through → IsFoundCall h through call →
    rule ≡ refused h s (arrow x ++ way_asked call x)

-- casts

-- of the conversion of what a typed cast gives, of a part that is ready
abbrev pub PartCastRefuses : Classes → Heap → (n : ℕ) → TypedCast → Conversion → Option Undefined → Type 0
PartCastRefuses h heap n how c rule = (s : Objects) (p : ObjectPart) (from to : ClassId) →
    IsReadyPart h heap s n p from → Casts h from how to →
    rule ≡ refused h s (convert (cast_value h s how (Pointer p)) c)

-- copies

-- whether an element of class d is ready, with the class members in it
abbrev pub IsElementCovered : Classes → Heap → (e : ℕ) → ClassId → Bool → Type 0
IsElementCovered h heap e d is_covered = (s : Objects) (p : ObjectPart) (k : ℕ) →
    HeapStands h heap s → Points h s.classes e p → Settled h p.object s.phases → class_of p.at ≡ Some d → d.0 < k →
    TellsReadiness h s is_covered (Passes p ∷ asked_covers h k d p)

-- right sides

-- the value of the leaf to which a place leads that breaks no rule
abbrev pub IsLeafReached : Classes → Heap → ValueCode → TypedPlace → ValueCode → Type 0
IsLeafReached h heap v place code = (e : Scope) (s : Sight) (x : Value) (t : ValueType ClassId) →
    MeansValueOf h heap s.objects v x place.class → IsPlace h e place (ValueField t) → None ≡ refused h s.objects (way_uses place x) →
    Means h s.objects.classes code (leaf_value s place x)

-- a pointer to the class member to which a place leads that breaks no rule
abbrev pub IsAddressReached : Classes → Heap → ValueCode → TypedPlace → ValueCode → Type 0
IsAddressReached h heap v place code = (e : Scope) (s : Sight) (x : Value) (d : ClassId) →
    MeansValueOf h heap s.objects v x place.class → IsPlace h e place (Object d) → None ≡ refused h s.objects (way_uses place x) →
    Means h s.objects.classes code (address_value place d x)

-- of a leaf that is read, and of its conversion
abbrev pub ReadRefuses : Classes → Heap → Scene → TypedPlace → Conversion → Option Undefined → Type 0
ReadRefuses h heap scene place c rule = (e : Scope) (s : Sight) (t : ValueType ClassId) →
    SightStands h heap scene e s → IsPlace h e place (ValueField t) →
    rule ≡ refused h s.objects (right_uses h (is_clear h s.objects) s (Read place) c)

-- of the address of a class member, and of its conversion
abbrev pub AddressRefuses : Classes → Heap → Scene → TypedPlace → Conversion → Option Undefined → Type 0
AddressRefuses h heap scene place c rule = (e : Scope) (s : Sight) (d : ClassId) →
    SightStands h heap scene e s → IsPlace h e place (Object d) →
    rule ≡ refused h s.objects (right_uses h (is_clear h s.objects) s (Address place d) c)

-- of a cast, and of the conversion of what it gives
abbrev pub CastedRefuses : Classes → Heap → Scene → TypedCast → TypedOperand → Conversion → Option Undefined → Type 0
CastedRefuses h heap scene how x c rule = (e : Scope) (s : Sight) (from to : ClassId) →
    SightStands h heap scene e s → HasType e x (PointerType from) → Casts h from how to →
    rule ≡ refused h s.objects (right_uses h (is_clear h s.objects) s (Cast how x) c)

-- of a right side, and of its conversion
abbrev pub RightRefuses : Classes → Heap → Scene → TypedRight → Conversion → Option Undefined → Type 0
RightRefuses h heap scene right c rule = (e : Scope) (s : Sight) (t : ValueType ClassId) →
    SightStands h heap scene e s → HasRight h e right t →
    rule ≡ refused h s.objects (right_uses h (is_clear h s.objects) s right c)

-- results

-- of a result that is converted for who waits for it
abbrev pub ResultRefuses : Classes → Heap → Scene → Argument → (found target : Conversion) → Option Undefined → Type 0
ResultRefuses h heap scene a found target rule = (s : Sight) (w : Wanted) →
    SceneStands h heap scene s → AllSettled h s.objects → w.found ≡ found → w.target ≡ target → IsReturn h s w (Some a) →
    rule ≡ refused h s.objects (return_uses s w (Some a))

-- of a `return`, with a result or without one
abbrev pub ReturnRefuses : Classes → Heap → Scene → Option Argument → (found target : Conversion) → Option Undefined → Type 0
ReturnRefuses h heap scene from found target rule = (e : Scope) (s : Sight) (w : Wanted) →
    SceneStands h heap scene s → IsGiven h e s w (Return from) → w.found ≡ found → w.target ≡ target →
    rule ≡ statement_refusal h s w (Return from)
