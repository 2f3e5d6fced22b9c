-- A value that a clear statement converts can be converted.
use Rattle.std.proofs.Common.{◌≡◌, ℕ, Bool, Option, None, List, ◌∷◌, ◌++◌, inl, refl, subst, sym}
use Rattle.foundation.proofs.Members.{Has}
use Rattle.cxx_hierarchy.specs.declared.records.ClassId.{ClassId}
use Rattle.cxx_hierarchy.specs.declared.records.ValueType.{ValueType}
use Rattle.cxx_hierarchy.specs.declared.records.ValueType.TheVariants.{Pointer as PointerType}
use Rattle.cxx_hierarchy.specs.Classes.{Classes}
use Rattle.cxx_subobject.specs.declared.Subobject.{Subobject}
use Rattle.cxx_subobject.specs.Subobjects.{IsSubobject}
use Rattle.cxx_program.specs.declared.operand.Argument.{Argument}
use Rattle.cxx_program.specs.declared.operand.Conversion.{Conversion}
use Rattle.cxx_program.specs.declared.operand.Conversion.TheVariants.{Base as ToBase}
use Rattle.cxx_program.specs.declared.statement.TypedPlace.{TypedPlace}
use Rattle.cxx_program.specs.declared.statement.TypedRight.{TypedRight}
use Rattle.cxx_program.specs.declared.statement.Converted.{Converted}
use Rattle.cxx_program.specs.Typed.{Scope, Converts, to_number, to_same, to_base, IsArgument, a_value, a_null, IsKept, whole, in_bits, HasRight, an_operand, a_calculation, a_comparison, a_negation, a_read, an_address, a_result, an_object, a_cast, a_type_test, IsConverted, a_right, a_null_right}
use Rattle.path_model.specs.Values.{Value, Unset, Number, Null, Pointer, Objects, Sight, value_of_operand}
use Rattle.path_model.specs.Places.{address_value, leaf_value}
use Rattle.path_model.specs.Uses.{StatementUse, Reads, Guards, convert, argument_uses, place_uses, cast_value, cast_uses, leaf_uses, right_uses}
use Rattle.path_model.specs.Rules.{refused, is_clear}
use Rattle.path_model.specs.Effects.{right_side_value}
use Rattle.path_values.specs.Conversions.{CanReach, CanConvert}
use Rattle.path_model.specs.TypedStates.{IsValue}
use Rattle.path_values.specs.Given.{HasTypesOfScope}
use Rattle.path_values.proofs.Seen.{sight_typed}
use Rattle.path_effects.proofs.Clear.{clear_front, clear_back, clear_rest, is_clear_by, ready_begun, guarded}
use Rattle.path_effects.proofs.Pointers.{seen_value}
use Rattle.path_effects.proofs.Targets.{IsTo, typed_to, right_to}

-- a pointer to the class, which is guarded
pub reaches : (h : Classes) (s : Objects) (us : List StatementUse) → refused h s us ≡ None → (v : Value) → Has us (Guards v) → (c : ClassId) (i : Subobject) → IsTo v c → IsSubobject h c i → CanReach h s v i
reaches h s us clear Unset has c i a valid = tt
reaches h s us clear (Number z) has c i a valid = tt
reaches h s us clear Null has c i a valid = tt
reaches h s us clear (Pointer p) has c i a valid = record { begun = ready_begun s p (guarded h s us clear p has); class = c; of_class = a; valid = valid }

pub can_reach : (h : Classes) (s : Objects) (v : Value) (c : ClassId) (i : Subobject) → refused h s (convert v (ToBase i)) ≡ None → IsTo v c → IsSubobject h c i → CanReach h s v i
can_reach h s v c i clear a valid = reaches h s (convert v (ToBase i)) clear v (inl refl) c i a valid

-- a value of the type t
pub can_convert : (h : Classes) (s : Objects) (t u : ValueType ClassId) (c : Conversion) → Converts h t c u → (v : Value) → ((k : ClassId) → t ≡ PointerType k → IsTo v k) → refused h s (convert v c) ≡ None → CanConvert h s v c
can_convert h s _ _ _ (to_number t u) v a clear = tt
can_convert h s _ _ _ (to_same t) v a clear = tt
can_convert h s _ _ _ (to_base k d i b) v a clear = can_reach h s v k i clear (a k refl) b.valid

-- an operand

pub argument_converts : (h : Classes) (e : Scope) (s : Sight) → HasTypesOfScope h e s → (a : Argument) (t : ValueType ClassId) → IsArgument h e a t → refused h s.objects (argument_uses s a) ≡ None → CanConvert h s.objects (value_of_operand s a.operand) a.conversion
argument_converts h e s seen _ _ (a_value a t u has fits) clear =
    let v = value_of_operand s a.operand in
    can_convert h s.objects t u a.conversion fits v
    (λ k is. typed_to h s.objects.classes v k (subst (λ (x : ValueType ClassId). IsValue h s.objects.classes v x) is (seen_value h e s seen a.operand t has)))
    (clear_rest h s.objects (Reads v) (convert v a.conversion) clear)
argument_converts h e s seen _ _ (a_null d) clear = tt

-- what a leaf keeps: a bit-field keeps a number, which can always be converted
pub kept_converts : (h : Classes) (e : Scope) (s : Sight) → HasTypesOfScope h e s → (a : Argument) (width : Option ℕ) (t : ValueType ClassId) → IsKept h e width a t → refused h s.objects (argument_uses s a) ≡ None → CanConvert h s.objects (value_of_operand s a.operand) a.conversion
kept_converts h e s seen _ _ _ (whole a t fits) clear = argument_converts h e s seen a t fits clear
kept_converts h e s seen _ _ _ (in_bits a n t u has is) clear = subst (λ (c : Conversion). CanConvert h s.objects (value_of_operand s a.operand) c) (sym is) tt

-- a right side

read_clear : (h : Classes) (s : Sight) (place : TypedPlace) (c : Conversion) → refused h s.objects (place_uses s place ++ leaf_uses (is_clear h s.objects (place_uses s place)) (leaf_value s place (value_of_operand s place.pointer)) c) ≡ None
    → refused h s.objects (convert (leaf_value s place (value_of_operand s place.pointer)) c) ≡ None
read_clear h s place c clear =
    let us = place_uses s place in
    let v = leaf_value s place (value_of_operand s place.pointer) in
    let front = clear_front h s.objects us (leaf_uses (is_clear h s.objects us) v c) clear in
    let back = clear_back h s.objects us (leaf_uses (is_clear h s.objects us) v c) clear in
    let leaf : refused h s.objects (Reads v ∷ convert v c) ≡ None = subst (λ (b : Bool). refused h s.objects (leaf_uses b v c) ≡ None) (is_clear_by h s.objects us front) back in
    clear_rest h s.objects (Reads v) (convert v c) leaf

-- where the right side is a pointer to k, i a base of k, and the conversion leads there
right_reaches : (h : Classes) (s : Sight) (e : Scope) (r : TypedRight) (u : ValueType ClassId) → HasRight h e r u → (k : ClassId) → u ≡ PointerType k → (i : Subobject) → IsSubobject h k i → IsTo (right_side_value h s r) k
    → refused h s.objects (right_uses h (is_clear h s.objects) s r (ToBase i)) ≡ None → CanReach h s.objects (right_side_value h s r) i
right_reaches h s e _ _ (an_operand x t has) k is i valid to clear = can_reach h s.objects (value_of_operand s x) k i (clear_rest h s.objects (Reads (value_of_operand s x)) (convert (value_of_operand s x) (ToBase i)) clear) to valid
right_reaches h s e _ _ (a_calculation op t u x y left right) k is i valid to clear = absurd (cc)
right_reaches h s e _ _ (a_comparison differ x y d left right) k is i valid to clear = absurd (cc)
right_reaches h s e _ _ (a_negation x t has) k is i valid to clear = absurd (cc)
right_reaches h s e _ _ (a_read place t p) k is i valid to clear = can_reach h s.objects (leaf_value s place (value_of_operand s place.pointer)) k i (read_clear h s place (ToBase i) clear) to valid
right_reaches h s e _ _ (an_address place d p) k is i valid to clear =
    let v = address_value place d (value_of_operand s place.pointer) in
    can_reach h s.objects v k i (clear_back h s.objects (place_uses s place) (convert v (ToBase i)) clear) to valid
right_reaches h s e _ _ (a_result call f t c ret) k is i valid to clear = tt
right_reaches h s e _ _ (an_object d known) k is i valid to clear = tt
right_reaches h s e _ _ (a_cast cast x c d has casts) k is i valid to clear =
    let v = cast_value h s.objects cast (value_of_operand s x) in
    can_reach h s.objects v k i (clear_back h s.objects (cast_uses cast (value_of_operand s x)) (convert v (ToBase i)) clear) to valid
right_reaches h s e _ _ (a_type_test x c d has poly known) k is i valid to clear = absurd (cc)

by_conversion : (h : Classes) (e : Scope) (s : Sight) → HasTypesOfScope h e s → (r : TypedRight) (u t : ValueType ClassId) → HasRight h e r u → (c : Conversion) → Converts h u c t
    → refused h s.objects (right_uses h (is_clear h s.objects) s r c) ≡ None → CanConvert h s.objects (right_side_value h s r) c
by_conversion h e s seen r _ _ has _ (to_number t u) clear = tt
by_conversion h e s seen r _ _ has _ (to_same t) clear = tt
by_conversion h e s seen r _ _ has _ (to_base k d i b) clear = right_reaches h s e r (PointerType k) has k refl i b.valid (right_to h e s (sight_typed h e s seen) r (PointerType k) has k refl) clear

pub right_converts : (h : Classes) (e : Scope) (s : Sight) → HasTypesOfScope h e s → (x : Converted) (t : ValueType ClassId) → IsConverted h e x t
    → refused h s.objects (right_uses h (is_clear h s.objects) s x.right x.conversion) ≡ None → CanConvert h s.objects (right_side_value h s x.right) x.conversion
right_converts h e s seen _ _ (a_right x u t has fits) clear = by_conversion h e s seen x.right u t has x.conversion fits clear
right_converts h e s seen _ _ (a_null_right d) clear = tt
