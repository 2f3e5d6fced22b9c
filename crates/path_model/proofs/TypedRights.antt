-- The value of a right side that calls nothing and makes nothing fits its type.
use Rattle.std.proofs.Common.{◌≡◌, Bool, Option, Some, None, List, refl}
use Rattle.std.specs.Prelude.{ℤ, ◌+ℤ◌, ◌-ℤ◌, ◌*ℤ◌, int_lt, not, ◌&&◌, nat_eq, if◌then◌else◌, pos}
use Rattle.foundation.proofs.Truth.{split}
use Rattle.cxx_hierarchy.specs.declared.records.ClassId.{ClassId}
use Rattle.cxx_hierarchy.specs.declared.records.Scalar.{Scalar}
use Rattle.cxx_hierarchy.specs.declared.records.Scalar.TheVariants.{Bool as TheBool, Int}
use Rattle.cxx_hierarchy.specs.declared.records.ValueType.{ValueType}
use Rattle.cxx_hierarchy.specs.declared.records.ValueType.TheVariants.{Number as NumberType, Pointer as PointerType}
use Rattle.cxx_hierarchy.specs.Scalars.{wrapped, common_type}
use Rattle.cxx_hierarchy.specs.Classes.{Classes}
use Rattle.cxx_hierarchy.specs.Hierarchies.{IsHierarchy}
use Rattle.cxx_subobject.specs.declared.Subobject.{Subobject}
use Rattle.cxx_subobject.specs.Locations.{ObjectPart}
use Rattle.cxx_search.specs.Searches.{is_within, cast_in}
use Rattle.cxx_program.specs.declared.statement.TypedPlace.{TypedPlace}
use Rattle.cxx_program.specs.declared.statement.TypedCast.{TypedCast}
use Rattle.cxx_program.specs.declared.statement.Arithmetic.{Arithmetic as Operator}
use Rattle.cxx_program.specs.declared.statement.Arithmetic.TheVariants.{Add, Subtract, Multiply, Less, LessEqual, Equal, NotEqual}
use Rattle.cxx_program.specs.declared.statement.TypedRight.{TypedRight}
use Rattle.cxx_program.specs.declared.statement.Converted.{Converted}
use Rattle.cxx_program.specs.Typed.{Scope, Casts, cast_same, cast_up, cast_down, cast_dynamic, calculated_type, HasRight, an_operand, a_calculation, a_comparison, a_negation, a_read, an_address, a_result, an_object, a_cast, a_type_test, IsConverted, a_right, a_null_right, IsPlace, zero_operand, of_number}
use Rattle.cxx_hierarchy.specs.declared.records.FieldType.TheVariants.{Value as ValueField, Object}
use Rattle.path_model.specs.Values.{Value, Unset, Number, Null, Pointer, Objects, Sight, value_of_operand, converted_to, argument_value}
use Rattle.path_model.specs.Places.{leaf_at, leaf_value, address_value}
use Rattle.path_model.specs.Uses.{cast_value, view_cast, view_of, value_or, derived_of}
use Rattle.path_model.specs.Effects.{truth_as_number, calculated_value, arithmetic_value, is_same_pointer, negated, is_number_zero, is_type, typeid_class, type_equal, right_side_value}
use Rattle.path_model.specs.TypedStates.{IsPartMade, IsValue}
use Rattle.path_model.proofs.TypedRanges.{wrapped_in_range, bit_in_range, zero_in_range}
use Rattle.path_model.proofs.TypedValues.{IsTypedSight, inner_made, operand_typed, converted_value}
use Rattle.path_model.proofs.TypedPlaces.{leaf_made, object_made}
use Rattle.path_model.proofs.TypedViews.{AreRunningParts, derived_made, cast_made}
use Rattle.path_model.specs.Typed.{IsCastFrom}

pub truth_typed : (h : Classes) (cs : List ClassId) (b : Bool) → IsValue h cs (truth_as_number b) (NumberType TheBool)
truth_typed h cs b = bit_in_range b

calculated_typed : (h : Classes) (cs : List ClassId) (op : Operator) (t : Scalar) (a b : ℤ) → IsValue h cs (calculated_value op t a b) (NumberType (calculated_type op t))
calculated_typed h cs Add t a b = wrapped_in_range t (a +ℤ b)
calculated_typed h cs Subtract t a b = wrapped_in_range t (a -ℤ b)
calculated_typed h cs Multiply t a b = wrapped_in_range t (a *ℤ b)
calculated_typed h cs Less t a b = bit_in_range (int_lt a b)
calculated_typed h cs LessEqual t a b = bit_in_range (not (int_lt b a))
calculated_typed h cs Equal t a b = bit_in_range (not (int_lt a b) && not (int_lt b a))
calculated_typed h cs NotEqual t a b = bit_in_range (not (not (int_lt a b) && not (int_lt b a)))

arithmetic_typed : (h : Classes) (cs : List ClassId) (op : Operator) (t : Scalar) (v w : Value) → IsValue h cs (arithmetic_value op t v w) (NumberType (calculated_type op t))
arithmetic_typed h cs op t (Number a) (Number b) = calculated_typed h cs op t (wrapped t a) (wrapped t b)
arithmetic_typed h cs op t Unset w = tt
arithmetic_typed h cs op t Null w = tt
arithmetic_typed h cs op t (Pointer p) w = tt
arithmetic_typed h cs op t (Number a) Unset = tt
arithmetic_typed h cs op t (Number a) Null = tt
arithmetic_typed h cs op t (Number a) (Pointer p) = tt

negated_typed : (h : Classes) (cs : List ClassId) (v : Value) → IsValue h cs (negated v) (NumberType TheBool)
negated_typed h cs Unset = tt
negated_typed h cs (Number z) = bit_in_range (is_number_zero z)
negated_typed h cs Null = tt
negated_typed h cs (Pointer p) = tt

is_type_typed : (h : Classes) (cs : List ClassId) (d : ClassId) (o : Option ClassId) → IsValue h cs (is_type d o) (NumberType TheBool)
is_type_typed h cs d None = tt
is_type_typed h cs d (Some c) = bit_in_range (nat_eq d.0 c.0)

type_equal_typed : (h : Classes) (s : Objects) (d : ClassId) (v : Value) → IsValue h s.classes (type_equal h s d v) (NumberType TheBool)
type_equal_typed h s d Unset = tt
type_equal_typed h s d (Number z) = tt
type_equal_typed h s d Null = tt
type_equal_typed h s d (Pointer p) = is_type_typed h s.classes d (typeid_class h s p)

-- casts

down_typed : (h : Classes) (s : Objects) (p : ObjectPart) (c d : ClassId) (i : Subobject) → IsPartMade h s.classes p c → (o : Option Subobject) → derived_of h s d i p ≡ o → IsValue h s.classes (value_or p Unset o) (PointerType d)
down_typed h s p c d i a None e = tt
down_typed h s p c d i a (Some t) e = derived_made h s p c d i t a e

dynamic_typed : (h : Classes) → IsHierarchy h → (s : Objects) → AreRunningParts h s → (p : ObjectPart) (c d : ClassId) (x : Subobject) → IsPartMade h s.classes p c → view_of h s p ≡ Some x
    → (o : Option Subobject) → cast_in h d x p.at ≡ o → IsValue h s.classes (value_or p Null o) (PointerType d)
dynamic_typed h keeps s runs p c d x a seen None e = tt
dynamic_typed h keeps s runs p c d x a seen (Some t) e = cast_made h keeps s runs p c d x t a seen e

view_cast_typed : (h : Classes) → IsHierarchy h → (s : Objects) → AreRunningParts h s → (p : ObjectPart) (c d : ClassId) → IsPartMade h s.classes p c → (o : Option Subobject) → view_of h s p ≡ o → IsValue h s.classes (view_cast h d p o) (PointerType d)
view_cast_typed h keeps s runs p c d a None e = tt
view_cast_typed h keeps s runs p c d a (Some x) e = split (is_within h x p.at) (λ b. IsValue h s.classes (if b then value_or p Null (cast_in h d x p.at) else Unset) (PointerType d))
    (λ _. dynamic_typed h keeps s runs p c d x a e (cast_in h d x p.at) refl) (λ _. tt)

pub cast_typed : (h : Classes) → IsHierarchy h → (s : Objects) → AreRunningParts h s → (cast : TypedCast) (c d : ClassId) → Casts h c cast d → (v : Value) → IsValue h s.classes v (PointerType c) → IsValue h s.classes (cast_value h s cast v) (PointerType d)
cast_typed h keeps s runs _ _ _ (cast_same c) v a = a
cast_typed h keeps s runs _ _ _ (cast_up c d i b) Unset a = tt
cast_typed h keeps s runs _ _ _ (cast_up c d i b) (Number z) a = absurd a
cast_typed h keeps s runs _ _ _ (cast_up c d i b) Null a = tt
cast_typed h keeps s runs _ _ _ (cast_up c d i b) (Pointer p) a = inner_made h s.classes p c d i a b.valid b.class
cast_typed h keeps s runs _ _ _ (cast_down c d i b root known) Unset a = tt
cast_typed h keeps s runs _ _ _ (cast_down c d i b root known) (Number z) a = absurd a
cast_typed h keeps s runs _ _ _ (cast_down c d i b root known) Null a = tt
cast_typed h keeps s runs _ _ _ (cast_down c d i b root known) (Pointer p) a = down_typed h s p c d i a (derived_of h s d i p) refl
cast_typed h keeps s runs _ _ _ (cast_dynamic c d poly known) Unset a = tt
cast_typed h keeps s runs _ _ _ (cast_dynamic c d poly known) (Number z) a = absurd a
cast_typed h keeps s runs _ _ _ (cast_dynamic c d poly known) Null a = tt
cast_typed h keeps s runs _ _ _ (cast_dynamic c d poly known) (Pointer p) a = view_cast_typed h keeps s runs p c d a (view_of h s p) refl

-- places

read_typed : (h : Classes) (e : Scope) (s : Sight) → IsTypedSight h e s → (place : TypedPlace) (t : ValueType ClassId) → IsPlace h e place (ValueField t) → (v : Value) → IsValue h s.objects.classes v (PointerType place.class) → IsValue h s.objects.classes (leaf_value s place v) t
read_typed h e s a place t b Unset p = tt
read_typed h e s a place t b (Number z) p = absurd p
read_typed h e s a place t b Null p = tt
read_typed h e s a place t b (Pointer q) p = a.leaves (leaf_at q place) t (leaf_made h s.objects.classes e place t q p b)

address_typed : (h : Classes) (e : Scope) (cs : List ClassId) (place : TypedPlace) (d : ClassId) → IsPlace h e place (Object d) → (v : Value) → IsValue h cs v (PointerType place.class) → IsValue h cs (address_value place d v) (PointerType d)
address_typed h e cs place d b Unset p = tt
address_typed h e cs place d b (Number z) p = absurd p
address_typed h e cs place d b Null p = tt
address_typed h e cs place d b (Pointer q) p = object_made h cs e place d q p b

pub right_typed : (h : Classes) → IsHierarchy h → (e : Scope) (s : Sight) → AreRunningParts h s.objects → IsTypedSight h e s → (r : TypedRight) (t : ValueType ClassId) → HasRight h e r t → IsValue h s.objects.classes (right_side_value h s r) t
right_typed h keeps e s runs a _ _ (an_operand x t has) = operand_typed h e s a x t has
right_typed h keeps e s runs a _ _ (a_calculation op u t x y left right) = arithmetic_typed h s.objects.classes op (common_type u t) (value_of_operand s x) (value_of_operand s y)
right_typed h keeps e s runs a _ _ (a_comparison differ x y c left right) =
    bit_in_range (if differ then not (is_same_pointer (argument_value s x) (argument_value s y)) else is_same_pointer (argument_value s x) (argument_value s y))
right_typed h keeps e s runs a _ _ (a_negation x t has) = negated_typed h s.objects.classes (value_of_operand s x)
right_typed h keeps e s runs a _ _ (a_read place t b) = read_typed h e s a place t b (value_of_operand s place.pointer) (operand_typed h e s a place.pointer (PointerType place.class) b.pointer)
right_typed h keeps e s runs a _ _ (an_address place d b) = address_typed h e s.objects.classes place d b (value_of_operand s place.pointer) (operand_typed h e s a place.pointer (PointerType place.class) b.pointer)
right_typed h keeps e s runs a _ _ (a_result call f t c is) = tt
right_typed h keeps e s runs a _ _ (an_object c known) = tt
right_typed h keeps e s runs a _ _ (a_cast cast x c d has casts) = cast_typed h keeps s.objects runs cast c d casts (value_of_operand s x) (operand_typed h e s a x (PointerType c) has)
right_typed h keeps e s runs a _ _ (a_type_test x c d has poly known) = type_equal_typed h s.objects d (value_of_operand s x)

pub converted_right_typed : (h : Classes) → IsHierarchy h → (e : Scope) (s : Sight) → AreRunningParts h s.objects → IsTypedSight h e s → (x : Converted) (t : ValueType ClassId) → IsConverted h e x t → IsValue h s.objects.classes (converted_to (right_side_value h s x.right) x.conversion) t
converted_right_typed h keeps e s runs a _ _ (a_right x u t has fits) = converted_value h s.objects.classes u t x.conversion fits (right_side_value h s x.right) (right_typed h keeps e s runs a x.right u has)
converted_right_typed h keeps e s runs a _ _ (a_null_right d) = tt

-- a right side that is converted has a type
pub converted_type : (h : Classes) (e : Scope) (x : Converted) (t : ValueType ClassId) → IsConverted h e x t → (u : ValueType ClassId) × HasRight h e x.right u
converted_type h e _ _ (a_right x u t has fits) = (u, has)
converted_type h e _ _ (a_null_right d) = (NumberType Int, an_operand zero_operand (NumberType Int) (of_number (pos 0) Int (zero_in_range Int)))

pub cast_given : (h : Classes) (c d : ClassId) (cast : TypedCast) → Casts h c cast d → IsCastFrom h c cast
cast_given h c d _ (cast_same _) = tt
cast_given h c d _ (cast_up _ _ i proper) = (d, proper)
cast_given h c d _ (cast_down _ _ i proper root known) = tt
cast_given h c d _ (cast_dynamic _ _ polymorphic known) = tt
