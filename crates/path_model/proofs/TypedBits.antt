-- What a leaf keeps of a number fits its type, and in a bit-field its bits can hold it.
use Rattle.std.proofs.Common.{◌≡◌, ℕ, ◌≤◌, Option, Some, None, List, refl, ap, subst, sym, ◌∙◌}
use Rattle.foundation.proofs.Members.{has_at, contains_from_has}
use Rattle.cxx_hierarchy.specs.declared.records.ClassId.{ClassId}
use Rattle.cxx_hierarchy.specs.declared.records.Scalar.{Scalar}
use Rattle.cxx_hierarchy.specs.declared.records.ValueType.{ValueType}
use Rattle.cxx_hierarchy.specs.declared.records.ValueType.TheVariants.{Number as NumberType}
use Rattle.cxx_hierarchy.specs.declared.records.FieldType.TheVariants.{Value as ValueField}
use Rattle.cxx_hierarchy.specs.Scalars.{most_bits, kept_in}
use Rattle.cxx_hierarchy.specs.Classes.{Classes, members_of, width_in, width_of_member}
use Rattle.cxx_hierarchy.specs.Hierarchies.{IsHierarchy}
use Rattle.cxx_subobject.specs.Locations.{IsElement}
use Rattle.cxx_program.specs.declared.operand.TypedOperand.{TypedOperand}
use Rattle.cxx_program.specs.declared.operand.Conversion.{Conversion}
use Rattle.cxx_program.specs.declared.operand.Argument.{Argument}
use Rattle.cxx_program.specs.Typed.{Scope, HasType, IsArgument, a_value, a_null, IsKept, whole, in_bits, width_within}
use Rattle.path_model.specs.Values.{Value, Unset, Number, Null, Pointer, Leaf, to_number, converted_to}
use Rattle.path_model.specs.TypedStates.{IsValue, IsInBitField, IsLeafMade, width_of_leaf}
use Rattle.path_model.proofs.TypedRanges.{kept_in_width, width_in_range}
use Rattle.path_model.proofs.TypedValues.{converted_value}

-- the width is one that a number of the type has room for
pub record HasRoom (width : Option ℕ) (t : ValueType ClassId) : Type 0 where
  pub most : (n : ℕ) (u : Scalar) → width ≡ Some n → t ≡ NumberType u → n ≤ most_bits u

-- the width of a member is one of a bit-field of its type
pub member_room : (h : Classes) → IsHierarchy h → (c : ClassId) (m i : ℕ) (t : ValueType ClassId) → IsElement h c m i (ValueField t) → HasRoom (width_of_member h c m) t
member_room h keeps c m i t el = record {
  most = λ n u is number.
      let has = contains_from_has (members_of h c) el.member (has_at (members_of h c) m el.member el.there) in
      let own : el.member.width ≡ Some n = sym (ap width_in el.there) ∙ is in
      let b = keeps.widths c el.member n has own in
      let same : ValueField (NumberType b.type) ≡ ValueField (NumberType u) = sym b.is ∙ (el.type_is ∙ ap (λ (x : ValueType ClassId). ValueField x) number) in
      let type : b.type ≡ u = cc in
      subst (λ (x : Scalar). n ≤ most_bits x) type b.high;
}

-- the width of a leaf that was made is that of its member
pub made_width : (h : Classes) (cs : List ClassId) (l : Leaf) (t : ValueType ClassId) → (a : IsLeafMade h cs l t) → width_of_leaf h l ≡ width_of_member h a.class l.member
made_width h cs l t a = ap (λ o. width_within h o l.member) a.part.of_class

-- what is unset is held anywhere
pub unset_held : (width : Option ℕ) (t : ValueType ClassId) → IsInBitField width Unset t
unset_held None t = tt
unset_held (Some n) t = tt

-- a number that n bits keep

bits_typed : (h : Classes) (cs : List ClassId) (n : ℕ) (s t : Scalar) → n ≤ most_bits t → (v : Value) → IsValue h cs v (NumberType s) → IsValue h cs (to_number (kept_in t n) v) (NumberType t)
bits_typed h cs n s t l Unset a = tt
bits_typed h cs n s t l (Number z) a = width_in_range t n (kept_in t n z) l (kept_in_width t n z)
bits_typed h cs n s t l Null a = absurd a
bits_typed h cs n s t l (Pointer p) a = absurd a

bits_held : (h : Classes) (cs : List ClassId) (n : ℕ) (s t : Scalar) → (v : Value) → IsValue h cs v (NumberType s) → IsInBitField (Some n) (to_number (kept_in t n) v) (NumberType t)
bits_held h cs n s t Unset a = tt
bits_held h cs n s t (Number z) a = kept_in_width t n z
bits_held h cs n s t Null a = absurd a
bits_held h cs n s t (Pointer p) a = absurd a

-- what a leaf of this width keeps of an operand, where operands have the values of their types
module _ (h : Classes) (cs : List ClassId) (e : Scope) (value : TypedOperand → Value) (typed : (x : TypedOperand) (t : ValueType ClassId) → HasType e x t → IsValue h cs (value x) t) where
  pub given_typed : (x : Argument) (t : ValueType ClassId) → IsArgument h e x t → IsValue h cs (converted_to (value x.operand) x.conversion) t
  given_typed _ _ (a_value x u t has fits) = converted_value h cs u t x.conversion fits (value x.operand) (typed x.operand u has)
  given_typed _ _ (a_null d) = tt

  pub kept_typed : (x : Argument) (t : ValueType ClassId) (width : Option ℕ) → HasRoom width t → IsKept h e width x t → IsValue h cs (converted_to (value x.operand) x.conversion) t
  kept_typed _ _ _ room (whole x t fits) = given_typed x t fits
  kept_typed _ _ _ room (in_bits x n s t has is) = subst (λ (c : Conversion). IsValue h cs (converted_to (value x.operand) c) (NumberType t)) (sym is) (bits_typed h cs n s t (room.most n t refl refl) (value x.operand) (typed x.operand (NumberType s) has))

  pub kept_held : (x : Argument) (t : ValueType ClassId) (width : Option ℕ) → IsKept h e width x t → IsInBitField width (converted_to (value x.operand) x.conversion) t
  kept_held _ _ _ (whole x t fits) = tt
  kept_held _ _ _ (in_bits x n s t has is) = subst (λ (c : Conversion). IsInBitField (Some n) (converted_to (value x.operand) c) (NumberType t)) (sym is) (bits_held h cs n s t (value x.operand) (typed x.operand (NumberType s) has))
