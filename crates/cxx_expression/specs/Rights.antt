-- Right sides. `at` is the place of the statement's first token.
use Rattle.std.specs.Prelude.{ℕ, Bool, false, if◌then◌else◌, Result}
use Rattle.cxx_hierarchy.specs.declared.records.ClassId.{ClassId}
use Rattle.cxx_hierarchy.specs.declared.records.ValueType.{ValueType}
use Rattle.cxx_hierarchy.specs.declared.records.ValueType.TheVariants as type
use Rattle.cxx_hierarchy.specs.declared.records.ReturnType.{ReturnType}
use Rattle.cxx_hierarchy.specs.declared.records.ReturnType.TheVariants as returns
use Rattle.cxx_hierarchy.specs.declared.stop.Rule.TheVariants as rule
use Rattle.cxx_hierarchy.specs.Classes.{Classes}
use Rattle.cxx_search.specs.Searches.{is_abstract}
use Rattle.cxx_syntax.specs.declared.tree.Spot.{Spot}
use Rattle.cxx_syntax.specs.declared.tree.Operand.{Operand}
use Rattle.cxx_syntax.specs.declared.tree.PlaceText.{PlaceText}
use Rattle.cxx_syntax.specs.declared.tree.CallText.{CallText}
use Rattle.cxx_syntax.specs.declared.tree.Right.{Right}
use Rattle.cxx_syntax.specs.declared.tree.Right.TheVariants as right
use Rattle.cxx_program.specs.declared.operand.Conversion.{Conversion}
use Rattle.cxx_program.specs.declared.statement.TypedCall.{TypedCall}
use Rattle.cxx_program.specs.declared.statement.TypedRight.{TypedRight}
use Rattle.cxx_program.specs.declared.statement.TypedRight.TheVariants as typed
use Rattle.cxx_program.specs.declared.statement.Converted.{Converted}
use Rattle.cxx_expression.specs.declared.faults.Fault.{Fault}
use Rattle.cxx_expression.specs.declared.scene.Scene.{Scene}
use Rattle.cxx_expression.specs.declared.scene.Setting.{Setting}
use Rattle.cxx_expression.specs.declared.typed.RightValue.{RightValue}
use Rattle.cxx_expression.specs.Checked.{Checked, pure, fail, ◌>>=◌, kept, where_typed}
use Rattle.cxx_expression.specs.Values.{operand_of, class_of_spot, conversion_of}
use Rattle.cxx_expression.specs.Places.{leaf_of, object_place_of}
use Rattle.cxx_expression.specs.Calls.{call_of}
use Rattle.cxx_expression.specs.Operators.{right_value, binary_right, not_right}
use Rattle.cxx_expression.specs.Casts.{cast_right, type_right}

-- an operand as a right side
unfoldable pub operand_right : Setting → Scene → ℕ → Operand → Checked RightValue
operand_right e s at x = do
  v ← operand_of e s at x
  pure (right_value (typed.Operand v.operand) v.ty v.is_null)

-- the value of a place (ISO C++03 4.1)
unfoldable pub place_right : Classes → Setting → Scene → ℕ → PlaceText → Checked RightValue
place_right h e s at text = do
  leaf ← leaf_of h e s at text
  pure (right_value (typed.Read leaf.place) leaf.ty false)

-- a pointer to an object (ISO C++03 5.3.1 p2)
unfoldable pub address_right : Classes → Setting → Scene → ℕ → PlaceText → Checked RightValue
address_right h e s at text = do
  object ← object_place_of h e s at text
  pure (right_value (typed.Address object.place object.class) (type.Pointer object.class) false)

-- a call with the type of its result
abbrev pub result_value : Result TypedCall Fault → ValueType ClassId → RightValue
result_value call t = record { right = where_typed typed.Call call; ty = t; is_null = false }

-- E19: a void result used
abbrev pub as_result : ℕ → Result TypedCall Fault → ReturnType ClassId → Checked RightValue
as_result at call returns.Void = fail rule.TypeMismatch at
as_result at call (returns.Value t) = pure (result_value call t)

-- the result of a call: its type rests on the function, and not on the receiver or the arguments
unfoldable pub call_right : Classes → Setting → Scene → ℕ → CallText → Checked RightValue
call_right h e s at text = do
  v ← call_of h e s at text
  as_result at v.call v.returns

-- E14: `new` of a class that has a pure final overrider (ISO C++03 10.4 p2)
abbrev pub made : ℕ → Bool → ClassId → Checked RightValue
made at is_pure c = if is_pure then fail rule.Abstract at else pure (right_value (typed.New c) (type.Pointer c) false)

-- a new object (ISO C++03 5.3.4)
unfoldable pub new_right : Classes → Spot → Checked RightValue
new_right h x = do
  c ← class_of_spot h x
  made x.at (is_abstract h c) c

-- the type of a right side, where it is known, and the right side, where all of it is typed
unfoldable pub right_of : Classes → Setting → Scene → ℕ → Right → Checked RightValue
right_of h e s at (right.Operand x) = operand_right e s at x
right_of h e s at (right.Binary x op y) = binary_right h e s at x op y
right_of h e s at (right.Not x) = not_right e s at x
right_of h e s at (right.Place text) = place_right h e s at text
right_of h e s at (right.Address text) = address_right h e s at text
right_of h e s at (right.Call text) = call_right h e s at text
right_of h e s at (right.New x) = new_right h x
right_of h e s at (right.Cast text) = cast_right h e s at text
right_of h e s at (right.TypeEqual x name) = type_right h e s at x name

-- a right side with its conversion
abbrev pub converted : TypedRight → Conversion → Converted
converted right conversion = record { right = right; conversion = conversion }

-- a right side with all its parts
unfoldable pub whole_right : Classes → Setting → Scene → ℕ → Right → Checked TypedRight
whole_right h e s at r = do
  v ← right_of h e s at r
  kept v.right

-- what a right side is known to be becomes a value of the type: the conversion rests on its type alone
unfoldable pub converted_value : Classes → ℕ → ValueType ClassId → RightValue → Checked Converted
converted_value h at t v = do
  c ← conversion_of h at v.ty v.is_null t
  right ← kept v.right
  pure (converted right c)

-- a right side that becomes a value of the type
unfoldable pub converted_right : Classes → Setting → Scene → ℕ → ValueType ClassId → Right → Checked Converted
converted_right h e s at t r = do
  v ← right_of h e s at r
  converted_value h at t v
