-- What a typed program names fits the numbers of ops: calls, right sides and statements.
use Rattle.std.proofs.Common.{◌≡◌, ℕ, ◌<◌, ◌≤◌, Option, Some, None, List, [], ◌∷◌, length, refl, ap, subst, sym, ◌∙◌, arith}
use Rattle.std.specs.Prelude.{slice_get}
use Rattle.std.specs.List.{AllByRecursion, AllZip}
use Rattle.std.proofs.lemmas.List.{length-map}
use Rattle.std.proofs.lemmas.Slice.Zip.{AllZip-long}
use Rattle.foundation.proofs.Places.{contains_at}
use Rattle.foundation.proofs.Members.{contains_from_has}
use Rattle.cxx_hierarchy.specs.declared.records.ClassId.{ClassId}
use Rattle.cxx_hierarchy.specs.declared.records.Function.{Function}
use Rattle.cxx_hierarchy.specs.declared.records.Param.{Param}
use Rattle.cxx_hierarchy.specs.declared.records.ReturnType.{ReturnType}
use Rattle.cxx_hierarchy.specs.declared.records.ReturnType.TheVariants.{Value as ValueReturn}
use Rattle.cxx_hierarchy.specs.declared.records.ValueType.{ValueType}
use Rattle.cxx_hierarchy.specs.declared.records.ValueType.TheVariants.{Number as NumberType, Pointer as PointerType}
use Rattle.cxx_hierarchy.specs.declared.records.FieldType.TheVariants.{Value as ValueField, Object}
use Rattle.cxx_hierarchy.specs.Classes.{Classes, functions_of}
use Rattle.cxx_hierarchy.specs.Hierarchies.{IsHierarchy}
use Rattle.cxx_subobject.specs.declared.Subobject.{Subobject}
use Rattle.cxx_overrider.specs.declared.FunctionId.{FunctionId}
use Rattle.cxx_overrider.specs.Functions.{return_at, return_of, pointee}
use Rattle.cxx_overrider.specs.Virtuals.{own}
use Rattle.cxx_search.proofs.Virtuals.{virtual_own, test_virtual}
use Rattle.cxx_program.specs.declared.operand.Argument.{Argument}
use Rattle.cxx_program.specs.declared.statement.Converted.{Converted}
use Rattle.cxx_program.specs.declared.statement.TypedCall.{TypedCall}
use Rattle.cxx_program.specs.declared.statement.TypedCast.{TypedCast}
use Rattle.cxx_program.specs.declared.statement.TypedCast.TheVariants.{Same as SameClass, Up, Down, Dynamic}
use Rattle.cxx_program.specs.declared.statement.TypedRight.{TypedRight}
use Rattle.cxx_program.specs.declared.statement.TypedRight.TheVariants.{Operand, Arithmetic, SamePointer, Not, Read, Address, Call as CallRight, New, Cast, TypeEqual}
use Rattle.cxx_program.specs.declared.statement.TypedKind.{TypedKind}
use Rattle.cxx_program.specs.declared.statement.TypedKind.TheVariants.{Declare, Assign, Write, Copy, Call, Delete, If, While, Return, Print, PrintType, PrintView, Dump}
use Rattle.cxx_program.specs.Typed.{Scope, IsKnown, IsWay, parameter_types, IsArgument, IsCall, Casts, cast_same, cast_up, cast_down, cast_dynamic, HasRight, an_operand, a_calculation, a_comparison, a_negation, a_read, an_address, a_result, an_object, a_cast, a_type_test, IsConverted, a_right, a_null_right, IsTyped, declares, begins, assigns, writes, copies, calls, deletes, branches, repeats, returns_value, prints, prints_type, prints_view, dumps, IsWithin}
use Rattle.path_model.specs.Outs.{class_or_first}
use Rattle.code_ops.specs.Operands.{pointed}
use Rattle.code_ops.specs.invariants.Fits.{most_local_registers, FitsBase, FitsArgument}
use Rattle.code_statements.specs.Rights.{cast_class, through_class}
use Rattle.code_statements.specs.invariants.Fits.{FitsCast, FitsWay, FitsCall, FitsRight, right_class, FitsConverted, FitsKind}
use Rattle.abi_lower.proofs.Fits.{IsFineScope, fits_variable, fits_operand, operand_known, operand_points, fits_conversion, fits_argument, fits_kept, base_low, fits_place, place_value, value_known, object_known}

module _ (h : Classes) (keeps : IsHierarchy h) (e : Scope) (fine : IsFineScope h e) where
  fits_arguments : (xs : List Argument) (ts : List (ValueType ClassId)) → AllZip (IsArgument h e) xs ts → AllByRecursion (FitsArgument h e) xs
  fits_arguments [] ts are = tt
  fits_arguments (x ∷ xs) [] are = absurd are
  fits_arguments (x ∷ xs) (t ∷ ts) are = (fits_argument h keeps e fine x t are.0, fits_arguments xs ts are.1)

  fits_way : (c k : ClassId) (q : Option Subobject) → c.0 < length h → IsWay h c q k → FitsWay h c q
  fits_way c k None known is = tt
  fits_way c k (Some i) known is = record { known = known; valid = is.valid }

  way_known : (c k : ClassId) (q : Option Subobject) → c.0 < length h → IsWay h c q k → k.0 < length h
  way_known c k None known is = subst (λ (d : ClassId). d.0 < length h) is known
  way_known c k (Some i) known is = base_low h keeps e fine c k i known is.valid is.class

  way_through : (call : TypedCall) (k : ClassId) → IsWay h call.class call.qualifier k → through_class call ≡ k
  way_through call k way = by_way call.qualifier refl way
    where
      by_way : (q : Option Subobject) → call.qualifier ≡ q → IsWay h call.class q k → through_class call ≡ k
      by_way None is way = rw is way
      by_way (Some i) is way = rw (is, way.class) refl

  fits_call : (call : TypedCall) (f : Function ClassId) → IsCall h e call f → FitsCall h e call
  fits_call call f is =
      let known = operand_known h keeps e fine call.pointer (PointerType call.class) is.pointer in
      let through = way_known call.class is.through call.qualifier known is.way in
      record {
        pointer = fits_operand h keeps e fine call.pointer (PointerType call.class) is.pointer;
        way = fits_way call.class is.through call.qualifier known is.way;
        base = subst (λ (c : ClassId). FitsBase h c call.base) (sym (way_through call is.through is.way)) (record { known = through; valid = is.base });
        arguments = fits_arguments call.arguments (parameter_types f) is.arguments;
        few = (let long = AllZip-long (IsArgument h e) call.arguments (parameter_types f) is.arguments in
            let params = length-map f.params (λ (p : Param ClassId). p.ty) in
            let few = keeps.few_params call.function.class f (contains_at (functions_of h call.function.class) call.function.index f is.declared) in omega arith);
        dispatched = λ d. contains_from_has (own h call.function.class) call.function (virtual_own h keeps call.function.class call.function refl (test_virtual h call.function (is.dispatched d).1));
      }

  fits_cast : (c d : ClassId) (cast : TypedCast) → c.0 < length h → Casts h c cast d → FitsCast h c cast
  fits_cast c d SameClass known is = tt
  fits_cast c d (Up i) known (cast_up _ _ _ proper) = record { known = known; valid = proper.valid }
  fits_cast c d (Down target i) known (cast_down _ _ _ proper whole there) = record { known = there; valid = proper.valid }
  fits_cast c d (Dynamic target) known (cast_dynamic _ _ polymorphic there) = there

  cast_leads : (c d : ClassId) (cast : TypedCast) → c.0 < length h → Casts h c cast d → (cast_class cast c ≡ d) × (d.0 < length h)
  cast_leads c d SameClass known (cast_same _) = (refl, known)
  cast_leads c d (Up i) known (cast_up _ _ _ proper) = (ap class_or_first proper.class, base_low h keeps e fine c d i known proper.valid proper.class)
  cast_leads c d (Down target i) known (cast_down _ _ _ proper whole there) = (refl, there)
  cast_leads c d (Dynamic target) known (cast_dynamic _ _ polymorphic there) = (refl, there)

  fits_right : (x : TypedRight) (t : ValueType ClassId) → HasRight h e x t → FitsRight h e x
  fits_right (Operand p) t (an_operand _ _ has) = fits_operand h keeps e fine p t has
  fits_right (Arithmetic _ _ p q) t (a_calculation op r s _ _ first second) = (fits_operand h keeps e fine p (NumberType r) first, fits_operand h keeps e fine q (NumberType s) second)
  fits_right (SamePointer differ a b) t (a_comparison _ _ _ c first second) = (fits_argument h keeps e fine a (PointerType c) first, fits_argument h keeps e fine b (PointerType c) second)
  fits_right (Not p) t (a_negation _ s has) = fits_operand h keeps e fine p (NumberType s) has
  fits_right (Read place) t (a_read _ _ is) = fits_place h keeps e fine place (ValueField t) is
  fits_right (Address place d) t (an_address _ _ is) = fits_place h keeps e fine place (Object d) is
  fits_right (CallRight call) t (a_result _ f _ is returns) = fits_call call f is
  fits_right (New c) t (an_object _ known) = known
  fits_right (Cast cast p) t (a_cast _ _ c d has is) =
      let known = operand_known h keeps e fine p (PointerType c) has in
      (fits_operand h keeps e fine p (PointerType c) has, subst (λ (o : Option ClassId). FitsCast h (class_or_first o) cast) (sym (operand_points h keeps e fine p (PointerType c) has)) (fits_cast c d cast known is))
  fits_right (TypeEqual p d) t (a_type_test _ c _ has polymorphic known) = fits_operand h keeps e fine p (PointerType c) has

  -- the type of a right side

  return_known : (f : FunctionId) (declared : Function ClassId) (t : ValueType ClassId) → slice_get (functions_of h f.class) f.index ≡ Some declared → declared.ret ≡ ValueReturn t → IsKnown h t
  return_known f declared (NumberType s) there returns = tt
  return_known f declared (PointerType d) there returns = keeps.returns f.class d declared (contains_at (functions_of h f.class) f.index declared there) returns

  returned_points : (t : ValueType ClassId) → pointee (Some (ValueReturn t)) ≡ pointed t
  returned_points (NumberType s) = refl
  returned_points (PointerType d) = refl

  return_points : (f : FunctionId) (declared : Function ClassId) (t : ValueType ClassId) → slice_get (functions_of h f.class) f.index ≡ Some declared → declared.ret ≡ ValueReturn t → pointee (return_of h f) ≡ pointed t
  return_points f declared t there returns = ap (λ (o : Option (Function ClassId)). pointee (return_at o)) there ∙ ap (λ (r : ReturnType ClassId). pointee (Some r)) returns ∙ returned_points t

  right_points : (x : TypedRight) (t : ValueType ClassId) → HasRight h e x t → (right_class h e x ≡ pointed t) × IsKnown h t
  right_points (Operand p) t (an_operand _ _ has) = (operand_points h keeps e fine p t has, operand_known h keeps e fine p t has)
  right_points (Arithmetic _ _ p q) t (a_calculation op r s _ _ first second) = (refl, tt)
  right_points (SamePointer differ a b) t (a_comparison _ _ _ c first second) = (refl, tt)
  right_points (Not p) t (a_negation _ s has) = (refl, tt)
  right_points (Read place) t (a_read _ _ is) = (ap pointed (place_value h keeps e fine place t is), value_known h keeps e fine place t is)
  right_points (Address place d) t (an_address _ _ is) = (refl, object_known h keeps e fine place d is)
  right_points (CallRight call) t (a_result _ f _ is returns) = (return_points call.function f t is.declared returns, return_known call.function f t is.declared returns)
  right_points (New c) t (an_object _ known) = (refl, known)
  right_points (Cast cast p) t (a_cast _ _ c d has is) =
      let leads = cast_leads c d cast (operand_known h keeps e fine p (PointerType c) has) is in
      (ap (λ (o : Option ClassId). Some (cast_class cast (class_or_first o))) (operand_points h keeps e fine p (PointerType c) has) ∙ ap (λ (k : ClassId). Some k) leads.0, leads.1)
  right_points (TypeEqual p d) t (a_type_test _ c _ has polymorphic known) = (refl, tt)

  fits_converted : (v : Converted) (t : ValueType ClassId) → IsConverted h e v t → FitsConverted h e v
  fits_converted v t (a_right _ s _ has converts) =
      let points = right_points v.right s has in
      record { right = fits_right v.right s has; conversion = fits_conversion h keeps e fine (right_class h e v.right) s t v.conversion points.0 points.1 converts }
  fits_converted v t (a_null_right d) = record { right = tt; conversion = tt }

  local_low : (n : ℕ) (t : ValueType ClassId) → slice_get e.locals n ≡ Some t → n < most_local_registers
  local_low n t is = fits_variable h keeps e fine (Rattle.cxx_program.specs.declared.operand.Variable.TheVariants.Local n) t is

  pub fits_kind : (size most n : ℕ) (kind : TypedKind) → size ≤ most → n < size → IsTyped h e kind → IsWithin size n kind → FitsKind h e most n kind
  fits_kind size most n (Declare m None) high low (declares _ t is) within = (local_low m t is, tt)
  fits_kind size most n (Declare m (Some v)) high low (begins _ _ t is converted) within = (local_low m t is, fits_converted v t converted)
  fits_kind size most n (Assign variable v) high low (assigns _ _ t is converted) within = (fits_variable h keeps e fine variable t is, fits_converted v t converted)
  fits_kind size most n (Write place a) high low (writes _ _ t is argument) within = (fits_place h keeps e fine place (ValueField t) is, fits_kept h keeps e fine place a t argument)
  fits_kind size most n (Copy to from c) high low (copies _ _ _ at from_at) within = (fits_operand h keeps e fine to (PointerType c) at, fits_operand h keeps e fine from (PointerType c) from_at, operand_known h keeps e fine to (PointerType c) at)
  fits_kind size most n (Call call) high low (calls _ f is) within = fits_call call f is
  fits_kind size most n (Delete p c) high low (deletes _ _ has) within = (fits_operand h keeps e fine p (PointerType c) has, operand_known h keeps e fine p (PointerType c) has)
  fits_kind size most n (If p other behind) high low (branches _ t _ _ has) (a, b, c) = (fits_operand h keeps e fine p (NumberType t) has, omega arith, omega arith, omega arith)
  fits_kind size most n (While p behind) high low (repeats _ t _ has) (a, b) = (fits_operand h keeps e fine p (NumberType t) has, omega arith, omega arith)
  fits_kind size most n (Return None) high low is within = tt
  fits_kind size most n (Return (Some a)) high low (returns_value _ t returns argument) within = fits_argument h keeps e fine a t argument
  fits_kind size most n (Print p) high low (prints _ t has) within = fits_operand h keeps e fine p t has
  fits_kind size most n (PrintType p c) high low (prints_type _ _ has polymorphic) within = fits_operand h keeps e fine p (PointerType c) has
  fits_kind size most n (PrintView p c) high low (prints_view _ _ has polymorphic) within = fits_operand h keeps e fine p (PointerType c) has
  fits_kind size most n (Dump p c) high low (dumps _ _ has) within = fits_operand h keeps e fine p (PointerType c) has
