-- What a clear `return` gives can be converted: for the declaration that was found, and for who waits for it.
use Rattle.std.proofs.Common.{◌≡◌, Some, None, List, ◌++◌, subst}
use Rattle.cxx_hierarchy.specs.declared.records.ClassId.{ClassId}
use Rattle.cxx_hierarchy.specs.declared.records.ValueType.{ValueType}
use Rattle.cxx_hierarchy.specs.declared.records.ValueType.TheVariants.{Pointer as PointerType}
use Rattle.cxx_hierarchy.specs.declared.records.ReturnType.TheVariants.{Value as ValueReturn}
use Rattle.cxx_hierarchy.specs.Classes.{Classes}
use Rattle.cxx_program.specs.declared.operand.Argument.{Argument}
use Rattle.cxx_program.specs.Typed.{Scope, IsArgument}
use Rattle.path_model.specs.Values.{Value, Sight, converted_to, argument_value}
use Rattle.path_model.specs.Uses.{StatementUse, Wanted, convert, argument_uses, return_uses}
use Rattle.path_model.specs.Rules.{refused}
use Rattle.path_model.specs.TypedStates.{IsValue}
use Rattle.path_model.proofs.TypedValues.{argument_typed, converted_value}
use Rattle.path_values.specs.Conversions.{CanConvert}
use Rattle.path_values.specs.Given.{HasTypesOfScope, GivesBack}
use Rattle.path_values.proofs.Seen.{sight_typed}
use Rattle.path_effects.proofs.Clear.{clear_front, clear_back}
use Rattle.path_effects.proofs.Conversions.{can_convert}
use Rattle.path_effects.proofs.Targets.{IsTo, typed_to}

pub record ReturnConverts (h : Classes) (s : Sight) (w : Wanted) (a : Argument) : Type 0 where
  pub argument : refused h s.objects (argument_uses s a) ≡ None
  pub found : CanConvert h s.objects (argument_value s a) w.found
  pub target : CanConvert h s.objects (converted_to (argument_value s a) w.found) w.target

-- a value of the type t is one to the class, where t is a pointer to it
to_class : (h : Classes) (cs : List ClassId) (v : Value) (t : ValueType ClassId) → IsValue h cs v t → (k : ClassId) → t ≡ PointerType k → IsTo v k
to_class h cs v t a k is = typed_to h cs v k (subst (λ (u : ValueType ClassId). IsValue h cs v u) is a)

pub return_converts : (h : Classes) (e : Scope) (s : Sight) → HasTypesOfScope h e s → (w : Wanted) (a : Argument) (t : ValueType ClassId) → e.returns ≡ Some (ValueReturn t) → IsArgument h e a t → GivesBack h e w
    → refused h s.objects (return_uses s w (Some a)) ≡ None → ReturnConverts h s w a
return_converts h e s seen w a t is fits gives clear =
    let g = gives t is in
    let cs = s.objects.classes in
    let v = argument_value s a in
    let u = converted_to v w.found in
    let us : List StatementUse = argument_uses s a in
    let vs : List StatementUse = convert v w.found in
    let ws : List StatementUse = convert u w.target in
    let behind = clear_back h s.objects us (vs ++ ws) clear in
    let typed = argument_typed h e s (sight_typed h e s seen) a t fits in
    let moved = converted_value h cs t g.0 w.found g.2 v typed in
    record {
      argument = clear_front h s.objects us (vs ++ ws) clear;
      found = can_convert h s.objects t g.0 w.found g.2 v (to_class h cs v t typed) (clear_front h s.objects vs ws behind);
      target = can_convert h s.objects g.0 g.1 w.target g.3 u (to_class h cs u g.0 moved) (clear_back h s.objects vs ws behind);
    }
