-- What a typed program names fits the numbers of ops: operands, conversions and places.
use Rattle.std.proofs.Common.{◌≡◌, ℕ, ◌<◌, ◌≤◌, ◌^◌, Option, Some, None, List, [], ◌∷◌, length, refl, ap, subst, sym, ◌∙◌, arith}
use Rattle.std.proofs.lemmas.Option.{slice_get_within}
use Rattle.foundation.proofs.Places.{contains_at}
use Rattle.cxx_hierarchy.specs.declared.records.ClassId.{ClassId}
use Rattle.cxx_hierarchy.specs.declared.records.Member.{Member}
use Rattle.cxx_hierarchy.specs.declared.records.ValueType.{ValueType}
use Rattle.cxx_hierarchy.specs.declared.records.ValueType.TheVariants.{Number as NumberType, Pointer as PointerType}
use Rattle.cxx_hierarchy.specs.declared.records.FieldType.{FieldType}
use Rattle.cxx_hierarchy.specs.declared.records.FieldType.TheVariants.{Value as ValueField, Object}
use Rattle.cxx_hierarchy.specs.Classes.{Classes, members_of, element_value_type, element_type}
use Rattle.cxx_hierarchy.specs.Declarations.{elements_of}
use Rattle.cxx_hierarchy.specs.Hierarchies.{IsHierarchy}
use Rattle.cxx_hierarchy.specs.Limits.{most_elements}
use Rattle.cxx_subobject.specs.declared.Subobject.{Subobject}
use Rattle.cxx_subobject.specs.Subobjects.{IsSubobject, class_of}
use Rattle.cxx_subobject.specs.Locations.{IsElement}
use Rattle.cxx_subobject.proofs.PathLemmas.{class_low}
use Rattle.cxx_program.specs.declared.operand.Variable.{Variable}
use Rattle.cxx_program.specs.declared.operand.Variable.TheVariants.{Global, Local}
use Rattle.cxx_program.specs.declared.operand.TypedOperand.{TypedOperand}
use Rattle.cxx_program.specs.declared.operand.TypedOperand.TheVariants.{Variable as VariableOperand, This, Number as NumberOperand}
use Rattle.cxx_program.specs.declared.operand.Conversion.{Conversion}
use Rattle.cxx_program.specs.declared.operand.Conversion.TheVariants.{Base as ToBase}
use Rattle.cxx_program.specs.declared.operand.Argument.{Argument}
use Rattle.cxx_program.specs.declared.statement.PassedMember.{PassedMember}
use Rattle.cxx_program.specs.declared.statement.TypedPlace.{TypedPlace}
use Rattle.cxx_program.specs.Typed.{Scope, IsKnown, variable_type, HasType, of_variable, of_this, of_number, Converts, to_number, to_same, to_base, IsArgument, a_value, a_null, IsKept, whole, in_bits, width_within, place_width, IsPassed, IsPath, IsPlace}
use Rattle.path_model.specs.Outs.{class_or_first}
use Rattle.code_ops.specs.Operands.{pointed, pointed_in, operand_class}
use Rattle.code_ops.specs.PlaceOps.{type_or_int, element_type_at}
use Rattle.code_ops.proofs.BitFields.{width_fits}
use Rattle.code_ops.specs.invariants.Fits.{most_local_registers, FitsVariable, FitsOperand, FitsConversion, FitsArgument, FitsPassed, FitsPath, FitsPlace}

-- few variables, whose types name known classes
pub record IsFineScope (h : Classes) (e : Scope) : Type 0 where
  pub globals : length e.globals < 2 ^ 32
  pub locals : length e.locals < most_local_registers
  pub variables : (x : Variable) (t : ValueType ClassId) → variable_type e x ≡ Some t → IsKnown h t
  pub this : (c : ClassId) → e.this ≡ Some c → c.0 < length h

module _ (h : Classes) (keeps : IsHierarchy h) (e : Scope) (fine : IsFineScope h e) where
  pub fits_variable : (x : Variable) (t : ValueType ClassId) → variable_type e x ≡ Some t → FitsVariable x
  fits_variable (Global n) t is = let low = slice_get_within e.globals n t is in let few = fine.globals in omega arith
  fits_variable (Local n) t is = let low = slice_get_within e.locals n t is in let few = fine.locals in omega arith

  pub fits_operand : (p : TypedOperand) (t : ValueType ClassId) → HasType e p t → FitsOperand p
  fits_operand (VariableOperand x) t (of_variable _ _ is) = fits_variable x t is
  fits_operand This t has = tt
  fits_operand (NumberOperand z) t has = tt

  -- the type of an operand

  pub operand_known : (p : TypedOperand) (t : ValueType ClassId) → HasType e p t → IsKnown h t
  operand_known (VariableOperand x) t (of_variable _ _ is) = fine.variables x t is
  operand_known This t (of_this c is) = fine.this c is
  operand_known (NumberOperand z) t (of_number _ s range) = tt

  pub operand_points : (p : TypedOperand) (t : ValueType ClassId) → HasType e p t → operand_class e p ≡ pointed t
  operand_points (VariableOperand x) t (of_variable _ _ is) = ap pointed_in is
  operand_points This t (of_this c is) = is
  operand_points (NumberOperand z) t (of_number _ s range) = refl

  -- a conversion from a type whose class is known
  pub fits_conversion : (class : Option ClassId) (s t : ValueType ClassId) (conversion : Conversion) → class ≡ pointed s → IsKnown h s → Converts h s conversion t → FitsConversion h class conversion
  fits_conversion class _ _ _ is known (to_number s t) = tt
  fits_conversion class _ _ _ is known (to_same t) = tt
  fits_conversion class _ _ _ is known (to_base c d i proper) = subst (λ (o : Option ClassId). FitsConversion h o (ToBase i)) (sym is) (record { known = known; valid = proper.valid })

  pub fits_argument : (a : Argument) (t : ValueType ClassId) → IsArgument h e a t → FitsArgument h e a
  fits_argument a t (a_value _ s _ has converts) = record {
    operand = fits_operand a.operand s has;
    conversion = fits_conversion (operand_class e a.operand) s t a.conversion (operand_points a.operand s has) (operand_known a.operand s has) converts;
  }
  fits_argument a t (a_null d) = record { operand = tt; conversion = tt }

  -- what a leaf keeps

  kept_few : (class : Option ClassId) (m n : ℕ) → width_within h class m ≡ Some n → n ≤ 64
  kept_few None m n is = absurd (let none : None ≡ Some n = is in cc)
  kept_few (Some d) m n is = width_fits h keeps d m n is

  kept_fits : (width : Option ℕ) (a : Argument) (t : ValueType ClassId) → ((n : ℕ) → width ≡ Some n → n ≤ 64) → IsKept h e width a t → FitsArgument h e a
  kept_fits _ _ _ few (whole a t is) = fits_argument a t is
  kept_fits _ _ _ few (in_bits a n s t has is) = record {
    operand = fits_operand a.operand (NumberType s) has;
    conversion = subst (λ (c : Conversion). FitsConversion h (operand_class e a.operand) c) (sym is) (few n refl);
  }

  pub fits_kept : (place : TypedPlace) (a : Argument) (t : ValueType ClassId) → IsKept h e (place_width h place) a t → FitsArgument h e a
  fits_kept place a t is = kept_fits (place_width h place) a t (kept_few (class_of place.base) place.member) is

  -- places

  pub base_low : (c d : ClassId) (i : Subobject) → c.0 < length h → IsSubobject h c i → class_of i ≡ Some d → d.0 < length h
  base_low c d i known valid is = let low = class_low h keeps c d i valid is in omega arith

  index_low : (c : ClassId) (m i : ℕ) (type : FieldType ClassId) → IsElement h c m i type → i < most_elements
  index_low c m i type element = by_count element.member.count refl element.within
    where
      by_count : (o : Option ℕ) → element.member.count ≡ o → i < elements_of o → i < most_elements
      by_count None is low = omega arith
      by_count (Some n) is low = let few = (keeps.counts c element.member n (contains_at (members_of h c) m element.member element.there) is).1 in omega arith

  object_low : (c d : ClassId) (m i : ℕ) → IsElement h c m i (Object d) → d.0 < c.0
  object_low c d m i element = keeps.objects c d element.member (contains_at (members_of h c) m element.member element.there) element.type_is

  fits_passed : (c : ClassId) (p : PassedMember) → c.0 < length h → IsPassed h c p → FitsPassed h c p
  fits_passed c p known is = record {
    base = record { known = known; valid = is.valid };
    smaller = (let inner = object_low is.class p.class p.member p.index is.element in let low = class_low h keeps c is.class p.base is.valid is.of_class in omega arith);
    index = index_low is.class p.member p.index (Object p.class) is.element;
  }

  fits_path : (c : ClassId) (passed : List PassedMember) (base : Subobject) → c.0 < length h → IsPath h c passed base → FitsPath h c passed base
  fits_path c [] base known is = record { known = known; valid = is }
  fits_path c (p ∷ passed) base known (first, rest) =
      let one = fits_passed c p known first in
      let low = one.smaller in
      (one, fits_path p.class passed base (omega arith) rest)

  -- the class at the end of a path
  path_known : (c d : ClassId) (passed : List PassedMember) (base : Subobject) → c.0 < length h → IsPath h c passed base → class_of base ≡ Some d → d.0 < length h
  path_known c d [] base known is of = base_low c d base known is of
  path_known c d (p ∷ passed) base known (first, rest) of = let low = (fits_passed c p known first).smaller in path_known p.class d passed base (omega arith) rest of

  pub fits_place : (place : TypedPlace) (type : FieldType ClassId) → IsPlace h e place type → FitsPlace h place
  fits_place place type is = record {
    pointer = fits_operand place.pointer (PointerType place.class) is.pointer;
    path = fits_path place.class place.passed place.base (operand_known place.pointer (PointerType place.class) is.pointer) is.path;
  }

  -- the type of what a place leads to

  pub place_value : (place : TypedPlace) (t : ValueType ClassId) → IsPlace h e place (ValueField t) → type_or_int (element_type_at h (class_or_first (class_of place.base)) place.member) ≡ t
  place_value place t is =
      let class : class_or_first (class_of place.base) ≡ is.class = ap class_or_first is.of_class in
      ap (λ (c : ClassId). type_or_int (element_type_at h c place.member)) class
      ∙ ap (λ (o : Option (Member ClassId)). type_or_int (element_type o)) is.element.there
      ∙ ap (λ (f : FieldType ClassId). type_or_int (element_value_type f)) is.element.type_is

  pub value_known : (place : TypedPlace) (t : ValueType ClassId) → IsPlace h e place (ValueField t) → IsKnown h t
  value_known place (NumberType s) is = tt
  value_known place (PointerType d) is = keeps.pointers is.class d is.element.member (contains_at (members_of h is.class) place.member is.element.member is.element.there) is.element.type_is

  pub object_known : (place : TypedPlace) (d : ClassId) → IsPlace h e place (Object d) → d.0 < length h
  object_known place d is =
      let known = operand_known place.pointer (PointerType place.class) is.pointer in
      let class = path_known place.class is.class place.passed place.base known is.path is.of_class in
      let low = object_low is.class d place.member place.index is.element in omega arith
