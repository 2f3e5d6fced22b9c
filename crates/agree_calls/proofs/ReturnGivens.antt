-- What the order of a return's tests is given: the classes of its result; and in `main`, whose result is a number, its argument alone is tested.
use Rattle.agree_statements.proofs.Givens.{value_of}
use Rattle.cxx_hierarchy.specs.Classes.{Classes}
use Rattle.cxx_hierarchy.specs.declared.records.ClassId.{ClassId}
use Rattle.cxx_hierarchy.specs.declared.records.Function.{Function as FunctionRecord}
use Rattle.cxx_hierarchy.specs.declared.records.Scalar.{Scalar}
use Rattle.cxx_hierarchy.specs.declared.records.ValueType.{ValueType}
use Rattle.cxx_hierarchy.specs.declared.records.ValueType.TheVariants.{Number as NumberType, Pointer as PointerType}
use Rattle.cxx_overrider.specs.Functions.{declaration_of, return_at, return_of}
use Rattle.cxx_overrider.specs.declared.FunctionId.{FunctionId}
use Rattle.cxx_program.specs.Typed.{Converts, IsArgument, Scope, Types, a_null, a_value, return_in, returns_of, to_base, to_number, to_same}
use Rattle.cxx_program.specs.declared.operand.Argument.{Argument}
use Rattle.cxx_program.specs.declared.operand.Conversion.{Conversion}
use Rattle.cxx_program.specs.declared.program.Owner.TheVariants.{Function}
use Rattle.cxx_program.specs.declared.program.TypedBody.{TypedBody}
use Rattle.cxx_program.specs.declared.statement.TypedKind.TheVariants.{Return}
use Rattle.path_model.proofs.Conversions.{convert_off, is_pointer, off_converted}
use Rattle.path_model.proofs.Ranks.{rank, rank_append, rank_full}
use Rattle.path_model.proofs.Sorted.{by_rank, by_sort}
use Rattle.path_model.proofs.TypedValues.{IsTypedSight, argument_typed, operand_typed}
use Rattle.path_model.specs.Order.{first_broken, sorted}
use Rattle.path_model.specs.Rules.{statement_refusal}
use Rattle.path_model.specs.States.{Target, target_conversion}
use Rattle.path_model.specs.Typed.{ConvertsClass as Leads, IsOf, IsReturn}
use Rattle.path_model.specs.TypedStates.{FitsTarget, IsValue}
use Rattle.path_model.specs.Uses.{Wanted, argument_uses, convert}
use Rattle.path_model.specs.Values.{Null, Number, Objects, Pointer, Sight, Unset, Value, argument_value, converted_to, value_of_operand}
use Rattle.std.proofs.Common.{◌≡◌, false, Option, Some, None, ◌++◌, refl, arith}

-- the class of a pointer type, and any class of numbers
abbrev type_class : ValueType ClassId → ClassId
type_class (NumberType t) = record { 0 = 0 }
type_class (PointerType c) = c

converts_given : (h : Classes) (s t : ValueType ClassId) (c : Conversion) → Converts h s c t → Leads h (type_class s) c (type_class t)
converts_given h _ _ _ (to_number s t) = refl
converts_given h _ _ _ (to_same t) = refl
converts_given h _ _ _ (to_base c d i proper) = proper

value_given : (h : Classes) (s : Objects) (v : Value) (t : ValueType ClassId) → IsValue h s.classes v t → IsOf s v (type_class t)
value_given h s v (PointerType c) typed = value_of h s v c typed
value_given h s Unset (NumberType t) typed = tt
value_given h s (Number z) (NumberType t) typed = tt
value_given h s Null (NumberType t) typed = tt
value_given h s (Pointer p) (NumberType t) typed = absurd typed

-- the class that the variable of a target takes
target_given : (h : Classes) (globals : Types) (waiting : TypedBody) (u : ValueType ClassId) (target : Option Target) → FitsTarget h globals waiting u target → (f : ClassId) × Leads h (type_class u) (target_conversion target) f
target_given h globals waiting u None fits = (type_class u, refl)
target_given h globals waiting u (Some target) fits = (type_class fits.0, converts_given h u fits.0 target.conversion fits.2)

pub return_given : (h : Classes) (e : Scope) (see : Sight) (a : Argument) (t u : ValueType ClassId) (found : Conversion) (target : Option Target) (globals : Types) (waiting : TypedBody) → IsTypedSight h e see → IsArgument h e a t → Converts h t found u → FitsTarget h globals waiting u target
    → IsReturn h see (record { found = found; target = target_conversion target }) (Some a)
return_given h e see _ _ u found target globals waiting sees (a_value a s t has to) converts fits =
    let last = target_given h globals waiting u target fits in
    (type_class s, type_class t, type_class u, last.0, value_given h see.objects (value_of_operand see a.operand) s (operand_typed h e see sees a.operand s has), converts_given h s t a.conversion to, converts_given h t u found converts, last.1)
return_given h e see _ _ u found target globals waiting sees (a_null d) converts fits =
    let last = target_given h globals waiting u target fits in
    (d, d, type_class u, last.0, tt, refl, converts_given h (PointerType d) u found converts, last.1)

-- a number is no pointer
number_off : (h : Classes) (s : Objects) (v : Value) (t : Scalar) → IsValue h s.classes v (NumberType t) → is_pointer v ≡ false
number_off h s Unset t typed = refl
number_off h s (Number z) t typed = refl
number_off h s Null t typed = refl
number_off h s (Pointer p) t typed = absurd typed

-- the rule that refuses a return whose result is a number
pub number_refusal : (h : Classes) (e : Scope) (see : Sight) (w : Wanted) (a : Argument) (t : Scalar) → IsTypedSight h e see → IsArgument h e a (NumberType t) → statement_refusal h see w (Return (Some a)) ≡ first_broken h see.objects (sorted (argument_uses see a))
number_refusal h e see w a t sees typed =
    let s = see.objects in
    let v = argument_value see a in
    let off = number_off h s v t (argument_typed h e see sees a (NumberType t) typed) in
    let uses = argument_uses see a in
    let second = convert v w.found in
    let third = convert (converted_to v w.found) w.target in
    let none_second = convert_off h s v w.found off in
    let none_third = convert_off h s (converted_to v w.found) w.target (off_converted v w.found off) in
    let r = rank_append h s uses (second ++ third) in
    let q = rank_append h s second third in
    let full = rank_full h s uses in
    let same : rank h s (uses ++ (second ++ third)) ≡ rank h s uses = omega (arith, r, q, full, none_second, none_third) in
    (by_rank h s (uses ++ (second ++ third)) uses (sorted uses) same (by_sort h s uses)).same

-- what the body of a function gives is what it is declared to return
pub returns_are : (h : Classes) (n : FunctionId) → returns_of h (Function n) ≡ return_of h n
returns_are h n = by_declaration (declaration_of h n)
  where
    by_declaration : (o : Option (FunctionRecord ClassId)) → return_in o ≡ return_at o
    by_declaration None = refl
    by_declaration (Some d) = refl
