-- What the order of tests is given of a typed right side.
use Rattle.std.proofs.Common.{Option, Some, None, List, [], ◌∷◌, ◌++◌}
use Rattle.cxx_hierarchy.specs.declared.records.ClassId.{ClassId}
use Rattle.cxx_hierarchy.specs.declared.records.ValueType.{ValueType}
use Rattle.cxx_hierarchy.specs.declared.records.ValueType.TheVariants.{Pointer as PointerType}
use Rattle.cxx_hierarchy.specs.Classes.{Classes}
use Rattle.cxx_subobject.specs.declared.Subobject.{Subobject}
use Rattle.cxx_subobject.specs.Subobjects.{IsSubobject, whole, whole_of}
use Rattle.cxx_program.specs.declared.statement.Converted.{Converted}
use Rattle.cxx_program.specs.declared.statement.PassedMember.{PassedMember}
use Rattle.cxx_program.specs.declared.statement.TypedRight.{TypedRight}
use Rattle.cxx_program.specs.Typed.{Scope, HasRight, an_operand, a_calculation, a_comparison, a_negation, a_read, an_address, a_result, an_object, a_cast, a_type_test, IsPath, IsPassed, IsConverted, a_right, a_null_right}
use Rattle.cxx_program.specs.Typed.{IsWay as IsTypedWay}
use Rattle.path_model.specs.Values.{Value, Unset, Number, Null, Pointer, Objects, Sight, value_of_operand}
use Rattle.path_model.specs.Places.{last_passed}
use Rattle.path_model.specs.TypedStates.{IsValue}
use Rattle.path_model.specs.Typed.{IsOf, IsRight, IsQualifyingBase}
use Rattle.path_model.proofs.TypedValues.{IsTypedSight, operand_typed}
use Rattle.path_model.proofs.TypedRights.{cast_given}

pub value_of : (h : Classes) (s : Objects) (v : Value) (c : ClassId) → IsValue h s.classes v (PointerType c) → IsOf s v c
value_of h s Unset c typed = tt
value_of h s (Number z) c typed = tt
value_of h s Null c typed = tt
value_of h s (Pointer p) c made = (made.of_class, (made.class, made.made))

path_more : (h : Classes) (c : ClassId) (xs : List PassedMember) (x : PassedMember) → IsPath h c xs x.base → ((e : ClassId) → IsSubobject h e x.base → IsPassed h e x) → IsPath h c (xs ++ x ∷ []) (whole_of x.class)
path_more h c [] x path passed = (passed c path, whole [] tt)
path_more h c (y ∷ xs) x path passed = (path.0, path_more h y.class xs x path.1 passed)

pub way_given : (h : Classes) (c k : ClassId) (i : Option Subobject) → IsTypedWay h c i k → IsQualifyingBase h c i
way_given h c k None way = tt
way_given h c k (Some i) way = way.valid

pub right_given : (h : Classes) (e : Scope) (see : Sight) (right : TypedRight) (t : ValueType ClassId) → IsTypedSight h e see → HasRight h e right t → IsRight h see right
right_given h e see _ _ typed (an_operand x t has) = tt
right_given h e see _ _ typed (a_calculation op s t x y a b) = tt
right_given h e see _ _ typed (a_comparison differ a b c x y) = tt
right_given h e see _ _ typed (a_negation x t has) = tt
right_given h e see _ _ typed (a_read place t is) = (value_of h see.objects (value_of_operand see place.pointer) place.class (operand_typed h e see typed place.pointer (PointerType place.class) is.pointer), is.path)
right_given h e see _ _ typed (an_address place d is) = (
  (value_of h see.objects (value_of_operand see place.pointer) place.class (operand_typed h e see typed place.pointer (PointerType place.class) is.pointer), is.path),
  path_more h place.class place.passed (last_passed place d) is.path (λ c valid. record { valid = valid; class = is.class; of_class = is.of_class; element = is.element }),
)
right_given h e see _ _ typed (a_result call f t is ret) = (value_of h see.objects (value_of_operand see call.pointer) call.class (operand_typed h e see typed call.pointer (PointerType call.class) is.pointer), way_given h call.class is.through call.qualifier is.way)
right_given h e see _ _ typed (an_object c known) = tt
right_given h e see _ _ typed (a_cast cast x c d has casts) = (c, value_of h see.objects (value_of_operand see x) c (operand_typed h e see typed x (PointerType c) has), cast_given h c d cast casts)
right_given h e see _ _ typed (a_type_test x c d has polymorphic known) = tt

pub converted_given : (h : Classes) (e : Scope) (see : Sight) (x : Converted) (t : ValueType ClassId) → IsTypedSight h e see → IsConverted h e x t → IsRight h see x.right
converted_given h e see _ _ typed (a_right x s t has to) = right_given h e see x.right s typed has
converted_given h e see _ _ typed (a_null_right d) = tt
