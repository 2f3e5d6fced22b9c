-- What a typed right side of one form has.
use Rattle.std.proofs.Common.{◌≡◌, Bool, subst}
use Rattle.cxx_hierarchy.specs.declared.records.ClassId.{ClassId}
use Rattle.cxx_hierarchy.specs.declared.records.ValueType.{ValueType}
use Rattle.cxx_hierarchy.specs.declared.records.ValueType.TheVariants.{Pointer as PointerType}
use Rattle.cxx_hierarchy.specs.declared.records.FieldType.TheVariants.{Value as ValueField, Object}
use Rattle.cxx_hierarchy.specs.Classes.{Classes}
use Rattle.cxx_program.specs.declared.operand.Argument.{Argument}
use Rattle.cxx_program.specs.declared.operand.TypedOperand.{TypedOperand}
use Rattle.cxx_program.specs.declared.statement.TypedPlace.{TypedPlace}
use Rattle.cxx_program.specs.declared.statement.TypedCast.{TypedCast}
use Rattle.cxx_program.specs.declared.statement.TypedRight.{TypedRight}
use Rattle.cxx_program.specs.declared.statement.TypedRight.TheVariants.{SamePointer, Read, Address, Cast}
use Rattle.cxx_program.specs.Typed.{Scope, HasType, IsArgument, Casts, IsPlace, HasRight, an_operand, a_calculation, a_comparison, a_negation, a_read, an_address, a_result, an_object, a_cast, a_type_test}

-- two pointers to one class
pub record Compares (h : Classes) (e : Scope) (a b : Argument) : Type 0 where
  pub class : ClassId
  pub one : IsArgument h e a (PointerType class)
  pub other : IsArgument h e b (PointerType class)

pub compares : (h : Classes) (e : Scope) (r : TypedRight) (t : ValueType ClassId) → HasRight h e r t → (differ : Bool) (a b : Argument) → r ≡ SamePointer differ a b → Compares h e a b
compares h e _ _ (an_operand x0 t has) differ a b same = absurd (cc)
compares h e _ _ (a_calculation op u t x0 y0 left right) differ a b same = absurd (cc)
compares h e _ _ (a_comparison differ0 a0 b0 k left right) differ a b same =
    let f : a0 ≡ a = cc in
    let g : b0 ≡ b = cc in
    record { class = k; one = subst (λ (z : Argument). IsArgument h e z (PointerType k)) f left; other = subst (λ (z : Argument). IsArgument h e z (PointerType k)) g right }
compares h e _ _ (a_negation x0 t has) differ a b same = absurd (cc)
compares h e _ _ (a_read place0 t p) differ a b same = absurd (cc)
compares h e _ _ (an_address place0 d0 p) differ a b same = absurd (cc)
compares h e _ _ (a_result call0 f t k ret) differ a b same = absurd (cc)
compares h e _ _ (an_object k known) differ a b same = absurd (cc)
compares h e _ _ (a_cast cast0 x0 k d0 has casts) differ a b same = absurd (cc)
compares h e _ _ (a_type_test x0 k d0 has poly known) differ a b same = absurd (cc)

pub reads : (h : Classes) (e : Scope) (r : TypedRight) (t : ValueType ClassId) → HasRight h e r t → (place : TypedPlace) → r ≡ Read place → IsPlace h e place (ValueField t)
reads h e _ _ (an_operand x0 t has) place same = absurd (cc)
reads h e _ _ (a_calculation op u t x0 y0 left right) place same = absurd (cc)
reads h e _ _ (a_comparison differ0 a0 b0 k left right) place same = absurd (cc)
reads h e _ _ (a_negation x0 t has) place same = absurd (cc)
reads h e _ _ (a_read place0 t p) place same = let f : place0 ≡ place = cc in subst (λ (z : TypedPlace). IsPlace h e z (ValueField t)) f p
reads h e _ _ (an_address place0 d0 p) place same = absurd (cc)
reads h e _ _ (a_result call0 f t k ret) place same = absurd (cc)
reads h e _ _ (an_object k known) place same = absurd (cc)
reads h e _ _ (a_cast cast0 x0 k d0 has casts) place same = absurd (cc)
reads h e _ _ (a_type_test x0 k d0 has poly known) place same = absurd (cc)

pub addresses : (h : Classes) (e : Scope) (r : TypedRight) (t : ValueType ClassId) → HasRight h e r t → (place : TypedPlace) (d : ClassId) → r ≡ Address place d → IsPlace h e place (Object d)
addresses h e _ _ (an_operand x0 t has) place d same = absurd (cc)
addresses h e _ _ (a_calculation op u t x0 y0 left right) place d same = absurd (cc)
addresses h e _ _ (a_comparison differ0 a0 b0 k left right) place d same = absurd (cc)
addresses h e _ _ (a_negation x0 t has) place d same = absurd (cc)
addresses h e _ _ (a_read place0 t p) place d same = absurd (cc)
addresses h e _ _ (an_address place0 d0 p) place d same =
    let f : place0 ≡ place = cc in
    let g : d0 ≡ d = cc in
    subst (λ (z : ClassId). IsPlace h e place (Object z)) g (subst (λ (z : TypedPlace). IsPlace h e z (Object d0)) f p)
addresses h e _ _ (a_result call0 f t k ret) place d same = absurd (cc)
addresses h e _ _ (an_object k known) place d same = absurd (cc)
addresses h e _ _ (a_cast cast0 x0 k d0 has casts) place d same = absurd (cc)
addresses h e _ _ (a_type_test x0 k d0 has poly known) place d same = absurd (cc)

-- a pointer, and a cast of it
pub record IsCasting (h : Classes) (e : Scope) (cast : TypedCast) (x : TypedOperand) : Type 0 where
  pub from : ClassId
  pub to : ClassId
  pub pointer : HasType e x (PointerType from)
  pub casts : Casts h from cast to

pub casting : (h : Classes) (e : Scope) (r : TypedRight) (t : ValueType ClassId) → HasRight h e r t → (cast : TypedCast) (x : TypedOperand) → r ≡ Cast cast x → IsCasting h e cast x
casting h e _ _ (an_operand x0 t has) cast x same = absurd (cc)
casting h e _ _ (a_calculation op u t x0 y0 left right) cast x same = absurd (cc)
casting h e _ _ (a_comparison differ0 a0 b0 k left right) cast x same = absurd (cc)
casting h e _ _ (a_negation x0 t has) cast x same = absurd (cc)
casting h e _ _ (a_read place0 t p) cast x same = absurd (cc)
casting h e _ _ (an_address place0 d0 p) cast x same = absurd (cc)
casting h e _ _ (a_result call0 f t k ret) cast x same = absurd (cc)
casting h e _ _ (an_object k known) cast x same = absurd (cc)
casting h e _ _ (a_cast cast0 x0 k d0 has casts) cast x same =
    let f : cast0 ≡ cast = cc in
    let g : x0 ≡ x = cc in
    record { from = k; to = d0; pointer = subst (λ (z : TypedOperand). HasType e z (PointerType k)) g has; casts = subst (λ (z : TypedCast). Casts h k z d0) f casts }
casting h e _ _ (a_type_test x0 k d0 has poly known) cast x same = absurd (cc)
