-- What goes into a bit-field is a number of its type.
use Rattle.std.proofs.Common.{◌≡◌, ℕ, Bool, Option, Some, None, Ok, refl, sym, ◌∙◌, ap, subst}
use Rattle.std.specs.Prelude.{slice_get}
use Rattle.foundation.proofs.Places.{contains_at}
use Rattle.cxx_hierarchy.specs.declared.records.ClassId.{ClassId}
use Rattle.cxx_hierarchy.specs.declared.records.Scalar.{Scalar}
use Rattle.cxx_hierarchy.specs.declared.records.ValueType.{ValueType}
use Rattle.cxx_hierarchy.specs.declared.records.ValueType.TheVariants as type
use Rattle.cxx_hierarchy.specs.declared.records.FieldType.{FieldType}
use Rattle.cxx_hierarchy.specs.declared.records.FieldType.TheVariants as field
use Rattle.cxx_hierarchy.specs.declared.records.Member.{Member}
use Rattle.cxx_hierarchy.specs.Classes.{Classes, members_of, value_type_in, leaf_type, leaf_type_in, width_in, width_of_member}
use Rattle.cxx_hierarchy.specs.Hierarchies.{IsHierarchy, IsBitField}
use Rattle.cxx_program.specs.declared.operand.Conversion.{Conversion}
use Rattle.cxx_program.specs.declared.operand.Conversion.TheVariants as conversion
use Rattle.cxx_program.specs.declared.statement.TypedPlace.{TypedPlace}
use Rattle.cxx_program.specs.Typed.{Scope, HasType, IsArgument, IsKept, whole, in_bits, IsPlace, width_within, place_width}
use Rattle.cxx_expression.specs.declared.typed.Value.{Value}
use Rattle.cxx_expression.specs.Values.{conversion_of, fitted, argument}
use Rattle.cxx_typing.proofs.Values.{IsValue}

-- the type is one of numbers
pub record IsNumber (u : ValueType ClassId) : Type 0 where
  pub scalar : Scalar
  pub is : u ≡ type.Number scalar

bit_field_number : (m : Member ClassId) (n : ℕ) (u : ValueType ClassId) → IsBitField m n → m.ty ≡ field.Value u → IsNumber u
bit_field_number m n u is e =
    let both : field.Value u ≡ field.Value (type.Number is.type) = sym e ∙ is.is in
    record { scalar = is.type; is = cc }

-- a place of a bit-field is one of a number
pub place_number : (h : Classes) → IsHierarchy h → (k : Scope) (place : TypedPlace) (u : ValueType ClassId) → IsPlace h k place (field.Value u) → (n : ℕ) → place_width h place ≡ Some n → IsNumber u
place_number h keeps k place u is n wide =
    let e = is.element in
    let width : e.member.width ≡ Some n = sym (ap width_in e.there) ∙ sym (ap (λ (o : Option ClassId). width_within h o place.member) is.of_class) ∙ wide in
    bit_field_number e.member n u (keeps.widths is.class e.member n (contains_at (members_of h is.class) place.member e.member e.there) width) e.type_is

leaf_number_in : (h : Classes) → IsHierarchy h → (c : ClassId) (m : ℕ) (u : ValueType ClassId) (o : Option (Member ClassId)) → slice_get (members_of h c) m ≡ o → leaf_type_in o ≡ Some u → (n : ℕ) → width_in o ≡ Some n → IsNumber u
leaf_number_in h keeps c m u None there leaf n wide = absurd (cc)
leaf_number_in h keeps c m u (Some x) there leaf n wide =
    let is = keeps.widths c x n (contains_at (members_of h c) m x there) wide in
    let type_is : value_type_in (field.Value (type.Number is.type)) None ≡ Some u = subst (λ (o : Option ℕ). value_type_in (field.Value (type.Number is.type)) o ≡ Some u) is.single (subst (λ (ty : FieldType ClassId). value_type_in ty x.count ≡ Some u) is.is leaf) in
    record { scalar = is.type; is = cc }

-- the type of a member that is a bit-field is one of numbers
pub leaf_number : (h : Classes) → IsHierarchy h → (c : ClassId) (m : ℕ) (u : ValueType ClassId) → leaf_type h c m ≡ Some u → (n : ℕ) → width_of_member h c m ≡ Some n → IsNumber u
leaf_number h keeps c m u leaf n wide = leaf_number_in h keeps c m u (slice_get (members_of h c) m) refl leaf n wide

-- a number becomes one of the type
pub record BecomesNumber (ty : ValueType ClassId) (by : Conversion) (u : ValueType ClassId) : Type 0 where
  pub from : Scalar
  pub to : Scalar
  pub from_is : ty ≡ type.Number from
  pub by_is : by ≡ conversion.Number to
  pub to_is : u ≡ type.Number to

converted_number : (h : Classes) (at : ℕ) (ty : ValueType ClassId) (is_null : Bool) (t : Scalar) (by : Conversion) → (conversion_of h at ty is_null (type.Number t)).typed ≡ Ok by → BecomesNumber ty by (type.Number t)
unfolding conversion_of
converted_number h at (type.Number s) is_null t by e = record { from = s; to = t; from_is = refl; by_is = cc; to_is = refl }
converted_number h at (type.Pointer c) is_null t by e = absurd (cc)

-- what becomes a number is one
pub conversion_number : (h : Classes) (at : ℕ) (ty : ValueType ClassId) (is_null : Bool) (u : ValueType ClassId) → IsNumber u → (by : Conversion) → (conversion_of h at ty is_null u).typed ≡ Ok by → BecomesNumber ty by u
conversion_number h at ty is_null u number by e =
    subst (BecomesNumber ty by) (sym number.is) (converted_number h at ty is_null number.scalar by (ap (λ (x : ValueType ClassId). (conversion_of h at ty is_null x).typed) (sym number.is) ∙ e))

number_kept : (h : Classes) (k : Scope) (v : Value) (u : ValueType ClassId) (by : Conversion) (n : ℕ) → IsValue k v → BecomesNumber v.ty by u → IsKept h k (Some n) (argument v.operand (fitted (Some n) by)) u
number_kept h k v u by n i b =
    subst (IsKept h k (Some n) (argument v.operand (fitted (Some n) by))) (sym b.to_is)
    (in_bits (argument v.operand (fitted (Some n) by)) n b.from b.to (subst (HasType k v.operand) b.from_is i.has) (ap (fitted (Some n)) b.by_is))

-- a value that becomes one of the type of a leaf, with the conversion of its width, is what the leaf keeps
pub kept_by : (h : Classes) (k : Scope) (v : Value) (u : ValueType ClassId) (by : Conversion) (width : Option ℕ) → IsValue k v → IsArgument h k (argument v.operand by) u → ((n : ℕ) → width ≡ Some n → BecomesNumber v.ty by u) →
    IsKept h k width (argument v.operand (fitted width by)) u
kept_by h k v u by None i a number = whole (argument v.operand by) u a
kept_by h k v u by (Some n) i a number = number_kept h k v u by n i (number n refl)
