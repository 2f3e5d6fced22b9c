-- The initializers of a typed program give constants.
use Rattle.std.proofs.Common.{◌≡◌, ℕ, ◌≤◌, Option, Some, None, List, refl, sym, ◌∙◌, subst, ap}
use Rattle.std.specs.Prelude.{nat_eq, find}
use Rattle.foundation.proofs.Places.{contains_at}
use Rattle.cxx_hierarchy.specs.declared.records.ClassId.{ClassId}
use Rattle.cxx_hierarchy.specs.declared.records.ValueType.{ValueType}
use Rattle.cxx_hierarchy.specs.declared.records.ValueType.TheVariants.{Number as NumberType, Pointer as PointerType}
use Rattle.cxx_hierarchy.specs.Classes.{Classes, width_of_member}
use Rattle.cxx_hierarchy.specs.Hierarchies.{IsHierarchy}
use Rattle.cxx_program.specs.declared.operand.Argument.{Argument}
use Rattle.cxx_program.specs.declared.operand.Conversion.{Conversion}
use Rattle.cxx_program.specs.declared.operand.TypedOperand.{TypedOperand}
use Rattle.cxx_program.specs.declared.operand.Variable.{Variable}
use Rattle.cxx_program.specs.declared.operand.Variable.TheVariants.{Global, Local}
use Rattle.cxx_program.specs.declared.program.Owner.{Owner}
use Rattle.cxx_program.specs.declared.program.Owner.TheVariants.{Main, Function, Constructor, Destructor}
use Rattle.cxx_program.specs.declared.program.TypedBody.{TypedBody}
use Rattle.cxx_program.specs.declared.program.TypedInit.{TypedInit}
use Rattle.cxx_program.specs.declared.program.TypedProgram.{TypedProgram}
use Rattle.cxx_program.specs.Typed.{IsTypedProgram, IsTypedInit, IsKept, whole, in_bits, IsArgument, a_value, a_null, HasType, of_variable, of_this, of_number, Converts, to_number, to_same, to_base, AreInitsOf, no_scope, variable_type}
use Rattle.path_model.specs.States.{member_init, inits_in, owned_body, same_owner}
use Rattle.abi_slots.proofs.Lists.{Item, found_passes, item_none}
use Rattle.code_ops.proofs.BitFields.{width_fits}
use Rattle.code_plans.specs.invariants.Constants.{IsNumberOperand, IsPlain, IsConstant}

abbrev IsNumberType : ValueType ClassId → Type 0
IsNumberType (NumberType t) = Unit {0}
IsNumberType (PointerType c) = ⊥

no_variable : (x : Variable) (t : ValueType ClassId) → variable_type no_scope x ≡ Some t → ⊥
no_variable (Global n) t e = cc
no_variable (Local n) t e = cc

constant_operand : (o : TypedOperand) (s : ValueType ClassId) → HasType no_scope o s → IsNumberOperand o × IsNumberType s
constant_operand _ _ (of_variable x t e) = absurd (no_variable x t e)
constant_operand _ _ (of_this c e) = absurd (cc)
constant_operand _ _ (of_number z t range) = (tt, tt)

plain : (h : Classes) (s : ValueType ClassId) (conversion : Conversion) (t : ValueType ClassId) → Converts h s conversion t → IsNumberType s → IsPlain conversion
plain h _ _ _ (to_number s t) number = tt
plain h _ _ _ (to_same t) number = tt
plain h _ _ _ (to_base c d i proper) number = number

argument_constant : (h : Classes) (a : Argument) (t : ValueType ClassId) → IsArgument h no_scope a t → IsNumberOperand a.operand × IsPlain a.conversion
argument_constant h _ _ (a_value a s t has converts) = let r = constant_operand a.operand s has in (r.0, plain h s a.conversion t converts r.1)
argument_constant h _ _ (a_null d) = (tt, tt)

kept_constant : (h : Classes) (width : Option ℕ) (a : Argument) (t : ValueType ClassId) → ((n : ℕ) → width ≡ Some n → n ≤ 64) → IsKept h no_scope width a t → IsNumberOperand a.operand × IsPlain a.conversion
kept_constant h _ _ _ fits (whole a t is) = argument_constant h a t is
kept_constant h _ _ _ fits (in_bits a n s t has is) = ((constant_operand a.operand (NumberType s) has).0, subst IsPlain (sym is) (fits n refl))

typed_constant : (h : Classes) → IsHierarchy h → (c : ClassId) (init : TypedInit) → IsTypedInit h c init → IsConstant init
typed_constant h keeps c init typed =
    let r = kept_constant h (width_of_member h c init.member) (record { operand = init.operand; conversion = init.conversion }) typed.type (width_fits h keeps c init.member) typed.value in
    record { operand = r.0; conversion = r.1 }

owned_constant : (h : Classes) → IsHierarchy h → (owner : Owner) (inits : List TypedInit) (init : TypedInit) → AreInitsOf h owner inits → Item inits init → IsConstant init
owned_constant h keeps Main inits init none item = absurd (item_none init (subst (λ (xs : List TypedInit). Item xs init) none item))
owned_constant h keeps (Function f) inits init none item = absurd (item_none init (subst (λ (xs : List TypedInit). Item xs init) none item))
owned_constant h keeps (Constructor c) inits init are item = typed_constant h keeps c init (are.each init (contains_at inits item.index init item.there))
owned_constant h keeps (Destructor c) inits init none item = absurd (item_none init (subst (λ (xs : List TypedInit). Item xs init) none item))

pub init_constant : (h : Classes) → IsHierarchy h → (program : TypedProgram) → IsTypedProgram h program → (c : ClassId) (m : ℕ) (init : TypedInit) → Some init ≡ member_init program c m → IsConstant init
init_constant h keeps program typed c m init is = by_body (owned_body program (Constructor c)) refl
  where
    by_body : (o : Option TypedBody) → owned_body program (Constructor c) ≡ o → IsConstant init
    by_body None e = absurd (let none : Some init ≡ None = is ∙ ap (λ b. find (λ (init : TypedInit). nat_eq init.member m) (inits_in b)) e in cc)
    by_body (Some body) e =
        let there = found_passes (λ (b : TypedBody). same_owner b.owner (Constructor c)) program.bodies body e in
        let own = found_passes (λ (i : TypedInit). nat_eq i.member m) body.inits init (sym (is ∙ ap (λ b. find (λ (init : TypedInit). nat_eq init.member m) (inits_in b)) e)) in
        owned_constant h keeps body.owner body.inits init (typed.bodies body (contains_at program.bodies there.0.index body there.0.there)).inits own.0
