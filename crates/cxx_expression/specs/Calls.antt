-- Calls. `at` is the place of the statement's first token.
use Rattle.std.specs.Prelude.{ℕ, ◌+◌, Bool, false, nat_eq, if◌then◌else◌, Option, Some, None, Result, Ok, Err, List, [], ◌∷◌, length, map, slice_get}
use Rattle.cxx_hierarchy.specs.declared.records.ClassId.{ClassId}
use Rattle.cxx_hierarchy.specs.declared.records.ValueType.{ValueType}
use Rattle.cxx_hierarchy.specs.declared.records.Param.{Param}
use Rattle.cxx_hierarchy.specs.declared.records.Function.{Function}
use Rattle.cxx_hierarchy.specs.declared.stop.Rule.TheVariants as rule
use Rattle.cxx_hierarchy.specs.Classes.{Classes}
use Rattle.cxx_subobject.specs.declared.Subobject.{Subobject}
use Rattle.cxx_subobject.specs.Subobjects.{class_of as class_of_subobject}
use Rattle.cxx_overrider.specs.declared.FunctionId.{FunctionId}
use Rattle.cxx_overrider.specs.Virtuals.{function_at, is_virtual}
use Rattle.cxx_syntax.specs.declared.tree.Spot.{Spot}
use Rattle.cxx_syntax.specs.declared.tree.Operand.{Operand}
use Rattle.cxx_syntax.specs.declared.tree.CallText.{CallText}
use Rattle.cxx_syntax.specs.declared.tree.PointerText.{PointerText}
use Rattle.cxx_program.specs.declared.operand.Argument.{Argument}
use Rattle.cxx_program.specs.declared.operand.Conversion.TheVariants as conversion
use Rattle.cxx_program.specs.declared.statement.TypedCall.{TypedCall}
use Rattle.cxx_expression.specs.declared.faults.Fault.{Fault}
use Rattle.cxx_expression.specs.declared.look_up.Looked.{Looked}
use Rattle.cxx_expression.specs.declared.look_up.Looked.TheVariants as looked
use Rattle.cxx_expression.specs.declared.scene.Scene.{Scene}
use Rattle.cxx_expression.specs.declared.scene.Setting.{Setting}
use Rattle.cxx_expression.specs.declared.typed.Pointer.{Pointer}
use Rattle.cxx_expression.specs.declared.typed.FoundFunction.{FoundFunction}
use Rattle.cxx_expression.specs.declared.typed.Target.{Target}
use Rattle.cxx_expression.specs.declared.typed.Receiver.{Receiver}
use Rattle.cxx_expression.specs.declared.typed.CallValue.{CallValue}
use Rattle.cxx_expression.specs.Checked.{Checked, pure, fail, warn, ◌>>=◌, both, beside, kept, where_typed}
use Rattle.cxx_expression.specs.Lookups.{looked_up, function_record}
use Rattle.cxx_expression.specs.Values.{operand_of, pointer_of, class_of_spot, path_to, converted_operand, argument}

-- the types of parameters
abbrev pub types_of : List (Param ClassId) → List (ValueType ClassId)
types_of params = map (λ (p : Param ClassId). p.ty) params

-- a function with the subobject that has it
abbrev pub found_function : Subobject → FunctionId → Function ClassId → FoundFunction
found_function s f function = record { base = s; function = f; parameters = types_of function.params; returns = function.ret; is_pure = function.is_pure }

-- a function that a name finds is one of its class, so that E10 is not met here
abbrev pub as_found : ℕ → Subobject → FunctionId → Option (Function ClassId) → Checked FoundFunction
as_found name_at s f None = fail rule.NoSuchMember name_at
as_found name_at s f (Some function) = pure (found_function s f function)

-- the function of a number in the class of a subobject
unfoldable pub function_in : Classes → ℕ → Subobject → ℕ → Option ClassId → Checked FoundFunction
function_in h name_at s number None = fail rule.NoSuchMember name_at
function_in h name_at s number (Some d) = as_found name_at s (function_at d number) (function_record h d number)

-- E10: no declaration; E9: two; E19: a data member
abbrev pub as_function : Classes → ℕ → ℕ → Looked → Checked FoundFunction
as_function h at name_at looked.Missing = fail rule.NoSuchMember name_at
as_function h at name_at looked.Ambiguous = fail rule.AmbiguousName name_at
as_function h at name_at (looked.Member s number) = fail rule.TypeMismatch at
as_function h at name_at (looked.Function s number) = function_in h name_at s number (class_of_subobject s)

-- the function that a name means in a class (ISO C++03 10.2)
unfoldable pub function_of : Classes → ℕ → ClassId → Spot → Checked FoundFunction
function_of h at c x = as_function h at x.at (looked_up h c x.name)

-- E19: a wrong count of arguments; those that have a parameter are still converted
abbrev pub counted : ℕ → ℕ → FoundFunction → Checked FoundFunction
counted at n f = if nat_eq n (length f.parameters) then pure f else warn rule.TypeMismatch at f

-- the pointer and the function of a call
abbrev pub target : Pointer → FoundFunction → Target
target p f = record { pointer = p; found = f }

-- the function is looked up in the class of the pointer (ISO C++03 5.2.5)
unfoldable pub target_of : Classes → Setting → Scene → ℕ → CallText → Checked Target
target_of h e s at call = do
  p ← pointer_of e s at call.pointer
  f ← function_of h at p.class call.name
  g ← counted at (length call.arguments) f
  pure (target p g)

-- an operand as it is
unfoldable pub plain_operand : Setting → Scene → ℕ → Operand → Checked Argument
plain_operand e s at x = do
  v ← operand_of e s at x
  pure (argument v.operand conversion.Same)

-- an argument without a parameter is not converted
unfoldable pub argument_of : Classes → Setting → Scene → ℕ → Option (ValueType ClassId) → Operand → Checked Argument
argument_of h e s at None x = plain_operand e s at x
argument_of h e s at (Some t) x = converted_operand h e s at t x

-- the arguments from number n on; none rests on another
unfoldable pub arguments_of : Classes → Setting → Scene → ℕ → List (ValueType ClassId) → ℕ → List Operand → Checked (List Argument)
arguments_of h e s at parameters n [] = pure []
arguments_of h e s at parameters n (x ∷ xs) = do
  r ← both (argument_of h e s at (slice_get parameters n) x) (arguments_of h e s at parameters (n + 1) xs)
  pure (r.0 ∷ r.1)

-- the types of the parameters of a function that was found
abbrev pub target_parameters : Result Target Fault → List (ValueType ClassId)
target_parameters (Err f) = []
target_parameters (Ok t) = t.found.parameters

-- a call in the class of the pointer: the final overrider runs where the function is virtual (ISO C++03 10.3 p6)
abbrev pub dispatched : Target → Bool → List Argument → TypedCall
dispatched t virtual arguments = record {
  pointer = t.pointer.operand;
  class = t.pointer.class;
  qualifier = None;
  base = t.found.base;
  function = t.found.function;
  is_dispatched = virtual;
  arguments = arguments;
}

-- what it returns rests on the function alone
abbrev pub plain_value : Target → Bool → Result (List Argument) Fault → CallValue
plain_value t virtual arguments = record { call = where_typed (dispatched t virtual) arguments; returns = t.found.returns }

-- the arguments are asked also where the function is none
unfoldable pub plain_call : Classes → Setting → Scene → ℕ → CallText → Checked CallValue
plain_call h e s at call = do
  r ← beside (target_of h e s at call) (λ t. arguments_of h e s at (target_parameters t) 0 call.arguments)
  pure (plain_value r.0 (is_virtual h r.0.found.function) r.1)

-- E14: a qualified call of a pure function
abbrev pub defined : ℕ → FoundFunction → Checked FoundFunction
defined at f = if f.is_pure then warn rule.Abstract at f else pure f

-- the look-up rests on the class before `::` alone
unfoldable pub named_function : Classes → ℕ → ClassId → CallText → Checked FoundFunction
named_function h at k call = do
  f ← function_of h at k call.name
  g ← defined call.name.at f
  counted at (length call.arguments) g

-- a pointer, and the path to its base
abbrev pub receiver : Pointer → Option Subobject → Receiver
receiver p path = record { pointer = p; path = path }

-- E15, E16: the class before `::` is an ambiguous base, or none
unfoldable pub receiver_of : Classes → Setting → Scene → ℕ → ClassId → PointerText → Checked Receiver
receiver_of h e s at k x = do
  p ← pointer_of e s at x
  path ← path_to h at p.class k
  pure (receiver p path)

-- the types of the parameters of a function that was found
abbrev pub found_parameters : Result FoundFunction Fault → List (ValueType ClassId)
found_parameters (Err e) = []
found_parameters (Ok f) = f.parameters

-- a call with a class before `::`: the function itself runs (ISO C++03 10.3 p12)
abbrev pub qualified : FoundFunction → Receiver × List Argument → TypedCall
qualified f passed = record {
  pointer = passed.0.pointer.operand;
  class = passed.0.pointer.class;
  qualifier = passed.0.path;
  base = f.base;
  function = f.function;
  is_dispatched = false;
  arguments = passed.1;
}

-- what it returns rests on the function alone
abbrev pub qualified_value : FoundFunction → Result (Receiver × List Argument) Fault → CallValue
qualified_value f passed = record { call = where_typed (qualified f) passed; returns = f.returns }

-- the receiver and the arguments are asked also where the function is none (ISO C++03 5.2.2 p1)
unfoldable pub qualified_call : Classes → Setting → Scene → ℕ → CallText → Spot → Checked CallValue
qualified_call h e s at call x = do
  k ← class_of_spot h x
  r ← beside (named_function h at k call) (λ f. both (receiver_of h e s at k call.pointer) (arguments_of h e s at (found_parameters f) 0 call.arguments))
  pure (qualified_value r.0 r.1)

-- a call with a class before `::`, or without one
abbrev pub call_by : Classes → Setting → Scene → ℕ → CallText → Option Spot → Checked CallValue
call_by h e s at call None = plain_call h e s at call
call_by h e s at call (Some x) = qualified_call h e s at call x

-- what a call returns, where its function is known, and the call, where its receiver and its arguments are too (ISO C++03 5.2.2)
unfoldable pub call_of : Classes → Setting → Scene → ℕ → CallText → Checked CallValue
call_of h e s at call = call_by h e s at call call.class

-- a call with its receiver and its arguments
unfoldable pub whole_call : Classes → Setting → Scene → ℕ → CallText → Checked TypedCall
whole_call h e s at call = do
  v ← call_of h e s at call
  kept v.call
