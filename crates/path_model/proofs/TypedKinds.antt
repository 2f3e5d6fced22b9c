-- Each statement leads from a typed state to a typed one, and is not wrong.
use Rattle.std.proofs.Common.{◌≡◌, Some, None, List, refl, ap, subst, sym, ◌∙◌}
use Rattle.cxx_hierarchy.specs.declared.records.ClassId.{ClassId}
use Rattle.cxx_hierarchy.specs.declared.records.Function.{Function as FunctionRecord}
use Rattle.cxx_hierarchy.specs.declared.records.ValueType.{ValueType}
use Rattle.cxx_hierarchy.specs.declared.records.ValueType.TheVariants.{Pointer as PointerType}
use Rattle.cxx_hierarchy.specs.declared.records.ReturnType.TheVariants.{Value as ValueReturn}
use Rattle.cxx_hierarchy.specs.Classes.{Classes}
use Rattle.cxx_hierarchy.specs.Hierarchies.{IsHierarchy}
use Rattle.cxx_overrider.specs.Faults.{HasNoFault}
use Rattle.cxx_program.specs.declared.operand.Variable.{Variable}
use Rattle.cxx_program.specs.declared.operand.Conversion.{Conversion}
use Rattle.cxx_program.specs.declared.statement.TypedCall.{TypedCall}
use Rattle.cxx_program.specs.declared.statement.TypedRight.{TypedRight}
use Rattle.cxx_program.specs.declared.statement.TypedRight.TheVariants.{Operand, Arithmetic, SamePointer, Not, Read, Address, Call as CallRight, New, Cast, TypeEqual}
use Rattle.cxx_program.specs.declared.statement.Converted.{Converted}
use Rattle.cxx_program.specs.declared.program.TypedBody.{TypedBody}
use Rattle.cxx_program.specs.declared.program.TypedProgram.{TypedProgram}
use Rattle.cxx_program.specs.Typed.{Scope, scope_of, variable_type, zero_operand, Converts, IsCall, HasRight, an_operand, a_calculation, a_comparison, a_negation, a_read, an_address, a_result, an_object, a_cast, a_type_test, IsConverted, a_right, a_null_right, IsTypedProgram}
use Rattle.path_model.specs.Values.{Value, Sight, converted_to}
use Rattle.path_model.specs.Uses.{right_uses}
use Rattle.path_model.specs.Rules.{refused, is_clear}
use Rattle.path_model.specs.States.{Frame, assigned}
use Rattle.path_model.specs.Effects.{right_side_value, taker, taken}
use Rattle.path_model.specs.TypedStates.{IsValue}
use Rattle.path_model.proofs.TypedValues.{IsTypedSight}
use Rattle.path_model.proofs.TypedRights.{converted_right_typed}
use Rattle.path_model.proofs.TypedFrames.{IsSound, IsSoundNext, IsOnTop, assigned_sound}
use Rattle.path_model.proofs.TypedCalls.{Waits, called_sound}
use Rattle.path_model.proofs.TypedNews.{new_sound}

-- what a right side is typed as

record IsResult (h : Classes) (e : Scope) (call : TypedCall) (u : ValueType ClassId) : Type 0 where
  pub declared : FunctionRecord ClassId
  pub is_call : IsCall h e call declared
  pub returns : declared.ret ≡ ValueReturn u

result_by : (h : Classes) (e : Scope) (r : TypedRight) (u : ValueType ClassId) → HasRight h e r u → (call : TypedCall) → r ≡ CallRight call → IsResult h e call u
result_by h e _ _ (an_operand x t has) call is = let g : Operand x ≡ CallRight call = is in absurd (cc)
result_by h e _ _ (a_calculation op s t x y left right) call is = absurd (cc)
result_by h e _ _ (a_comparison differ x y c left right) call is = absurd (cc)
result_by h e _ _ (a_negation x t has) call is = absurd (cc)
result_by h e _ _ (a_read place t p) call is = absurd (cc)
result_by h e _ _ (an_address place d p) call is = absurd (cc)
result_by h e _ _ (a_result other f t c ret) call is = let same : other ≡ call = cc in subst (λ (x : TypedCall). IsResult h e x t) same (record { declared = f; is_call = c; returns = ret })
result_by h e _ _ (an_object c known) call is = absurd (cc)
result_by h e _ _ (a_cast cast x c d has casts) call is = absurd (cc)
result_by h e _ _ (a_type_test x c d has poly known) call is = absurd (cc)

new_by : (h : Classes) (e : Scope) (r : TypedRight) (u : ValueType ClassId) → HasRight h e r u → (d : ClassId) → r ≡ New d → u ≡ PointerType d
new_by h e _ _ (an_operand x t has) d is = absurd (cc)
new_by h e _ _ (a_calculation op s t x y left right) d is = absurd (cc)
new_by h e _ _ (a_comparison differ x y c left right) d is = absurd (cc)
new_by h e _ _ (a_negation x t has) d is = absurd (cc)
new_by h e _ _ (a_read place t p) d is = absurd (cc)
new_by h e _ _ (an_address place c p) d is = absurd (cc)
new_by h e _ _ (a_result other f t c ret) d is = absurd (cc)
new_by h e _ _ (an_object c known) d is = let same : c ≡ d = cc in ap (λ (x : ClassId). PointerType x) same
new_by h e _ _ (a_cast cast x c k has casts) d is = absurd (cc)
new_by h e _ _ (a_type_test x c k has poly known) d is = absurd (cc)

-- a right side that is no null pointer constant has a type, which is converted
inverse : (h : Classes) (e : Scope) (x : Converted) (t : ValueType ClassId) → IsConverted h e x t → (x.right ≡ Operand zero_operand → ⊥) → (u : ValueType ClassId) × HasRight h e x.right u × Converts h u x.conversion t
inverse h e _ _ (a_right x u t has fits) other = (u, has, fits)
inverse h e _ _ (a_null_right d) other = absurd (other refl)

module _ (h : Classes) (keeps : IsHierarchy h) (fine : HasNoFault h) (program : TypedProgram) (a : IsTypedProgram h program) (see : Sight) (globals : List Value) (frames : List Frame) (body : TypedBody) (top : IsOnTop program body frames)
    (sees : IsTypedSight h (scope_of h program.globals body) see) (b : IsSound h program (record { objects = see.objects; globals = globals; frames = frames })) where
  module _ (variable : Variable) (t : ValueType ClassId) (is : variable_type (scope_of h program.globals body) variable ≡ Some t) where
    sets : (x : Converted) → IsConverted h (scope_of h program.globals body) x t → (v : Value) → v ≡ converted_to (right_side_value h see x.right) x.conversion → IsValue h see.objects.classes v t
    sets x fits v same = subst (λ (w : Value). IsValue h see.objects.classes w t) (sym same) (converted_right_typed h keeps (scope_of h program.globals body) see b.runs sees x t fits)

    set_sound : (r : TypedRight) (c : Conversion) → IsConverted h (scope_of h program.globals body) (record { right = r; conversion = c }) t → IsSound h program (assigned (record { objects = see.objects; globals = globals; frames = frames }) variable (converted_to (right_side_value h see r) c))
    set_sound r c fits = assigned_sound h program (record { objects = see.objects; globals = globals; frames = frames }) body top variable t is (converted_to (right_side_value h see r) c) (sets (record { right = r; conversion = c }) fits (converted_to (right_side_value h see r) c) refl) b

    result_waits : (call : TypedCall) (c : Conversion) (u : ValueType ClassId) → (k : IsResult h (scope_of h program.globals body) call u) → Converts h u c t → Waits h program.globals body k.declared.ret (taker variable c)
    result_waits call c u k fits = record {
      value = λ w ret. (t, is, let same : u ≡ w = let g : ValueReturn u ≡ ValueReturn w = sym k.returns ∙ ret in cc in subst (λ (x : ValueType ClassId). Converts h x c t) same fits);
      nothing = λ none. absurd (none u k.returns);
    }

    pub taken_sound : (r : TypedRight) (c : Conversion) → IsConverted h (scope_of h program.globals body) (record { right = r; conversion = c }) t → refused h see.objects (right_uses h (is_clear h see.objects) see r c) ≡ None
        → IsSoundNext h program (taken h program see (record { objects = see.objects; globals = globals; frames = frames }) variable r c)
    taken_sound (Operand x) c fits clear = set_sound (Operand x) c fits
    taken_sound (Arithmetic op s x y) c fits clear = set_sound (Arithmetic op s x y) c fits
    taken_sound (SamePointer differ x y) c fits clear = set_sound (SamePointer differ x y) c fits
    taken_sound (Not x) c fits clear = set_sound (Not x) c fits
    taken_sound (Read place) c fits clear = set_sound (Read place) c fits
    taken_sound (Address place d) c fits clear = set_sound (Address place d) c fits
    taken_sound (CallRight call) c fits clear =
        let x : Converted = record { right = CallRight call; conversion = c } in
        let k = inverse h (scope_of h program.globals body) x t fits (λ e. cc) in
        let result = result_by h (scope_of h program.globals body) (CallRight call) k.0 k.1 call refl in
        called_sound h keeps fine program a (scope_of h program.globals body) see sees b.runs globals frames body top call result.declared result.is_call (taker variable c) (result_waits call c k.0 result k.2) clear b
    taken_sound (New d) c fits clear =
        let x : Converted = record { right = New d; conversion = c } in
        let k = inverse h (scope_of h program.globals body) x t fits (λ e. cc) in
        let same = new_by h (scope_of h program.globals body) (New d) k.0 k.1 d refl in
        new_sound h program (record { objects = see.objects; globals = globals; frames = frames }) body top d (taker variable c) (t, is, subst (λ (u : ValueType ClassId). Converts h u c t) same k.2) b
    taken_sound (Cast cast x) c fits clear = set_sound (Cast cast x) c fits
    taken_sound (TypeEqual x d) c fits clear = set_sound (TypeEqual x d) c fits
