-- Operators of numbers and of pointers. `at` is the place of the statement's first token.
use Rattle.std.specs.Prelude.{ℕ, Bool, true, false, nat_eq, if◌then◌else◌, Ok}
use Rattle.cxx_hierarchy.specs.declared.records.ClassId.{ClassId}
use Rattle.cxx_hierarchy.specs.declared.records.Scalar.{Scalar}
use Rattle.cxx_hierarchy.specs.declared.records.Scalar.TheVariants as scalar
use Rattle.cxx_hierarchy.specs.declared.records.ValueType.{ValueType}
use Rattle.cxx_hierarchy.specs.declared.records.ValueType.TheVariants as type
use Rattle.cxx_hierarchy.specs.declared.stop.Rule.TheVariants as rule
use Rattle.cxx_hierarchy.specs.Classes.{Classes}
use Rattle.cxx_hierarchy.specs.Scalars.{common_type}
use Rattle.cxx_syntax.specs.declared.tree.Operand.{Operand}
use Rattle.cxx_syntax.specs.declared.tree.BinaryOp.{BinaryOp}
use Rattle.cxx_syntax.specs.declared.tree.BinaryOp.TheVariants as binary
use Rattle.cxx_program.specs.declared.operand.TypedOperand.{TypedOperand}
use Rattle.cxx_program.specs.declared.operand.Conversion.{Conversion}
use Rattle.cxx_program.specs.declared.operand.Conversion.TheVariants as conversion
use Rattle.cxx_program.specs.declared.statement.Arithmetic.{Arithmetic}
use Rattle.cxx_program.specs.declared.statement.Arithmetic.TheVariants as arithmetic
use Rattle.cxx_program.specs.declared.statement.TypedRight.{TypedRight}
use Rattle.cxx_program.specs.declared.statement.TypedRight.TheVariants as typed
use Rattle.cxx_expression.specs.declared.look_up.Based.{Based}
use Rattle.cxx_expression.specs.declared.look_up.Based.TheVariants as based
use Rattle.cxx_expression.specs.declared.scene.Scene.{Scene}
use Rattle.cxx_expression.specs.declared.scene.Setting.{Setting}
use Rattle.cxx_expression.specs.declared.typed.RightValue.{RightValue}
use Rattle.cxx_expression.specs.Checked.{Checked, pure, fail, ◌>>=◌, both}
use Rattle.cxx_expression.specs.Lookups.{base_up}
use Rattle.cxx_expression.specs.Values.{operand_of, number_operand, argument}

-- a right side with its type
abbrev pub right_value : TypedRight → ValueType ClassId → Bool → RightValue
right_value right ty is_null = record { right = Ok right; ty = ty; is_null = is_null }

-- a right side that is true or false
abbrev pub truth_value : TypedRight → RightValue
truth_value right = right_value right (type.Number scalar.Bool) false

-- a sum, difference or product is of the common type of its operands, and a comparison is true or false
-- (ISO C++03 5.6, 5.7, 5.9, 5.10)
abbrev pub type_by : Arithmetic → Scalar → Scalar
type_by arithmetic.Add t = t
type_by arithmetic.Subtract t = t
type_by arithmetic.Multiply t = t
type_by arithmetic.Less t = scalar.Bool
type_by arithmetic.LessEqual t = scalar.Bool
type_by arithmetic.Equal t = scalar.Bool
type_by arithmetic.NotEqual t = scalar.Bool

-- an operator of two numbers, calculated in their common type
abbrev pub calculated : Arithmetic → TypedOperand → Scalar → TypedOperand → Scalar → RightValue
calculated op a s b t = right_value (typed.Arithmetic op (common_type s t) a b) (type.Number (type_by op (common_type s t))) false

-- E19: an arithmetic operator or `<` on a pointer
unfoldable pub arithmetic_right : Setting → Scene → ℕ → Arithmetic → Operand → Operand → Checked RightValue
arithmetic_right e s at op x y = do
  p ← both (number_operand e s at x) (number_operand e s at y)
  pure (calculated op p.0.operand p.0.scalar p.1.operand p.1.scalar)

-- a comparison of two pointers, each with its conversion
abbrev pub same_pointer : Bool → TypedOperand → TypedOperand → Conversion × Conversion → RightValue
same_pointer differ a b c = truth_value (typed.SamePointer differ (argument a c.0) (argument b c.1))

-- of two pointers to different classes one is converted to the class of the other. E15: one class is an ambiguous base of the
-- other; E16: neither is a base of the other
abbrev pub one_converted : ℕ → Based → Based → Checked (Conversion × Conversion)
one_converted at (based.Base s) other = pure (conversion.Base s, conversion.Same)
one_converted at based.TwoBases other = fail rule.AmbiguousBase at
one_converted at based.NotBase based.NotBase = fail rule.NotBase at
one_converted at based.NotBase based.TwoBases = fail rule.AmbiguousBase at
one_converted at based.NotBase (based.Base s) = pure (conversion.Same, conversion.Base s)

-- how pointers to two classes become pointers to one (ISO C++03 5.9 p2, 5.10 p1)
unfoldable pub to_one_class : Classes → ℕ → ClassId → ClassId → Checked (Conversion × Conversion)
to_one_class h at c d = if nat_eq c.0 d.0 then pure (conversion.Same, conversion.Same) else one_converted at (base_up h c d) (base_up h d c)

-- E19: a pointer beside a number that is no null pointer constant
abbrev pub if_null : ℕ → Bool → Conversion × Conversion → Checked (Conversion × Conversion)
if_null at true c = pure c
if_null at false c = fail rule.TypeMismatch at

-- the comparison of numbers
abbrev pub equality : Bool → Arithmetic
equality true = arithmetic.NotEqual
equality false = arithmetic.Equal

-- two pointers, converted to one class
unfoldable pub pointers_right : Classes → ℕ → Bool → TypedOperand → ClassId → TypedOperand → ClassId → Checked RightValue
pointers_right h at differ a c b d = do
  r ← to_one_class h at c d
  pure (same_pointer differ a b r)

-- a pointer beside a number
unfoldable pub null_right : ℕ → Bool → Bool → TypedOperand → TypedOperand → Conversion × Conversion → Checked RightValue
null_right at is_null differ a b conversions = do
  r ← if_null at is_null conversions
  pure (same_pointer differ a b r)

-- two numbers, two pointers, or a pointer and a null pointer constant
unfoldable pub compared : Classes → ℕ → Bool → TypedOperand → ValueType ClassId → Bool → TypedOperand → ValueType ClassId → Bool → Checked RightValue
compared h at differ a (type.Number s) a_null b (type.Number t) b_null = pure (calculated (equality differ) a s b t)
compared h at differ a (type.Number s) a_null b (type.Pointer d) b_null = null_right at a_null differ a b (conversion.Null, conversion.Same)
compared h at differ a (type.Pointer c) a_null b (type.Number t) b_null = null_right at b_null differ a b (conversion.Same, conversion.Null)
compared h at differ a (type.Pointer c) a_null b (type.Pointer d) b_null = pointers_right h at differ a c b d

-- `==`, or `!=` where they are to differ (ISO C++03 5.10)
unfoldable pub equal_right : Classes → Setting → Scene → ℕ → Bool → Operand → Operand → Checked RightValue
equal_right h e s at differ x y = do
  p ← both (operand_of e s at x) (operand_of e s at y)
  compared h at differ p.0.operand p.0.ty p.0.is_null p.1.operand p.1.ty p.1.is_null

-- an operator of two operands
unfoldable pub binary_right : Classes → Setting → Scene → ℕ → Operand → BinaryOp → Operand → Checked RightValue
binary_right h e s at x binary.Add y = arithmetic_right e s at arithmetic.Add x y
binary_right h e s at x binary.Subtract y = arithmetic_right e s at arithmetic.Subtract x y
binary_right h e s at x binary.Multiply y = arithmetic_right e s at arithmetic.Multiply x y
binary_right h e s at x binary.Less y = arithmetic_right e s at arithmetic.Less x y
binary_right h e s at x binary.LessEqual y = arithmetic_right e s at arithmetic.LessEqual x y
binary_right h e s at x binary.Equal y = equal_right h e s at false x y
binary_right h e s at x binary.NotEqual y = equal_right h e s at true x y

-- `!` of a number (ISO C++03 5.3.1 p8)
unfoldable pub not_right : Setting → Scene → ℕ → Operand → Checked RightValue
not_right e s at x = do
  v ← number_operand e s at x
  pure (truth_value (typed.Not v.operand))
