-- Operands, pointers and conversions. `at` is the place of the statement's first token.
use Rattle.std.specs.Prelude.{ℕ, ℤ, pos, Bool, true, false, not, nat_eq, nat_le, ◌&&◌, if◌then◌else◌, Option, Some, None, neg_ℤ}
use Rattle.cxx_hierarchy.specs.declared.records.ClassId.{ClassId}
use Rattle.cxx_hierarchy.specs.declared.records.Scalar.TheVariants as scalar
use Rattle.cxx_hierarchy.specs.declared.records.ValueType.{ValueType}
use Rattle.cxx_hierarchy.specs.declared.records.ValueType.TheVariants as type
use Rattle.cxx_hierarchy.specs.declared.stop.Rule.TheVariants as rule
use Rattle.cxx_hierarchy.specs.Classes.{Classes}
use Rattle.cxx_hierarchy.specs.NameTables.{Text}
use Rattle.cxx_subobject.specs.declared.Subobject.{Subobject}
use Rattle.cxx_syntax.specs.declared.tree.Spot.{Spot}
use Rattle.cxx_syntax.specs.declared.tree.PointerText.{PointerText}
use Rattle.cxx_syntax.specs.declared.tree.PointerText.TheVariants as pointer
use Rattle.cxx_syntax.specs.declared.tree.Constant.{Constant}
use Rattle.cxx_syntax.specs.declared.tree.Constant.TheVariants as constant
use Rattle.cxx_syntax.specs.declared.tree.Operand.{Operand}
use Rattle.cxx_syntax.specs.declared.tree.Operand.TheVariants as operand
use Rattle.cxx_program.specs.declared.operand.Variable.{Variable}
use Rattle.cxx_program.specs.declared.operand.Variable.TheVariants.{Global, Local}
use Rattle.cxx_program.specs.declared.operand.TypedOperand.{TypedOperand}
use Rattle.cxx_program.specs.declared.operand.TypedOperand.TheVariants as typed
use Rattle.cxx_program.specs.declared.operand.Conversion.{Conversion}
use Rattle.cxx_program.specs.declared.operand.Conversion.TheVariants as conversion
use Rattle.cxx_program.specs.declared.operand.Argument.{Argument}
use Rattle.cxx_expression.specs.declared.look_up.Based.{Based}
use Rattle.cxx_expression.specs.declared.look_up.Based.TheVariants as based
use Rattle.cxx_expression.specs.declared.scene.Entry.{Entry}
use Rattle.cxx_expression.specs.declared.scene.Scene.{Scene}
use Rattle.cxx_expression.specs.declared.scene.Setting.{Setting}
use Rattle.cxx_expression.specs.declared.typed.Value.{Value}
use Rattle.cxx_expression.specs.declared.typed.Pointer.{Pointer}
use Rattle.cxx_expression.specs.declared.typed.Number.{Number}
use Rattle.cxx_expression.specs.Checked.{Checked, pure, fail, ◌>>=◌}
use Rattle.cxx_expression.specs.Lookups.{find_class, base_up}
use Rattle.cxx_expression.specs.Scenes.{innermost_entry}

-- E3: the source defines no class of the name
abbrev pub as_class : ℕ → Option ClassId → Checked ClassId
as_class at None = fail rule.UnknownClass at
as_class at (Some c) = pure c

-- the class of a name that stands at a place
unfoldable pub class_named : Classes → Text → ℕ → Checked ClassId
class_named h name at = as_class at (find_class h name)

-- the class of a name and its place
unfoldable pub class_of_spot : Classes → Spot → Checked ClassId
class_of_spot h x = class_named h x.name x.at

-- the type of a declaration, whose first token stands at the place
unfoldable pub type_of : Classes → ValueType Text → ℕ → Checked (ValueType ClassId)
type_of h (type.Number t) at = pure (type.Number t)
type_of h (type.Pointer name) at = do
  c ← class_named h name at
  pure (type.Pointer c)

-- an operand with its type
abbrev pub value : TypedOperand → ValueType ClassId → Bool → Value
value operand ty is_null = record { operand = operand; ty = ty; is_null = is_null }

-- E22: no variable of the name is in scope
abbrev pub named_global : ℕ → Option Entry → Checked (Variable × ValueType ClassId)
named_global at None = fail rule.UnknownName at
named_global at (Some entry) = pure (Global entry.number, entry.ty)

-- a local of the name, or else a global
abbrev pub local_of : Setting → Spot → Option Entry → Checked (Variable × ValueType ClassId)
local_of e x None = named_global x.at (innermost_entry e.globals x.name)
local_of e x (Some entry) = pure (Local entry.number, entry.ty)

-- the variable that a name means, and its type (ISO C++03 3.4.1)
unfoldable pub variable_of : Setting → Scene → Spot → Checked (Variable × ValueType ClassId)
variable_of e s x = local_of e x (innermost_entry s.entries x.name)

-- the value of the variable of a name
unfoldable pub named_value : Setting → Scene → Spot → Checked Value
named_value e s x = do
  v ← variable_of e s x
  pure (value (typed.Variable v.0) v.1 false)

-- E19: `this` in main (ISO C++03 9.3.2)
abbrev pub this_pointer_value : ℕ → Option ClassId → Checked Value
this_pointer_value at None = fail rule.TypeMismatch at
this_pointer_value at (Some c) = pure (value typed.This (type.Pointer c) false)

-- a source has no number above 2^63 - 1
abbrev pub within_long : ℕ → ℕ
within_long n = if nat_le n 9223372036854775807 then n else 9223372036854775807

-- the number that is written
abbrev pub spelled : Bool → ℕ → ℤ
spelled false n = pos (within_long n)
spelled true n = neg_ℤ (pos (within_long n))

-- `false` is 0 and `true` is 1 (ISO C++03 4.5 p4)
abbrev pub truth : Bool → ℤ
truth false = pos 0
truth true = pos 1

-- an `int` where it fits, else a `long` (ISO C++03 2.13.1); 0 is a null pointer constant (4.10)
abbrev pub constant_of : Constant → Value
constant_of (constant.Number negative n at) = value (typed.Number (spelled negative n)) (type.Number (if nat_le n 2147483647 then scalar.Int else scalar.Long)) (nat_eq n 0 && not negative)
constant_of (constant.Truth b at) = value (typed.Number (truth b)) (type.Number scalar.Bool) false

-- the value of an operand
unfoldable pub operand_of : Setting → Scene → ℕ → Operand → Checked Value
operand_of e s at (operand.Name x) = named_value e s x
operand_of e s at (operand.This place) = this_pointer_value at e.this_class
operand_of e s at (operand.Constant c) = pure (constant_of c)

-- the value of what stands before `->`
unfoldable pub pointer_value : Setting → Scene → ℕ → PointerText → Checked Value
pointer_value e s at (pointer.Name x) = named_value e s x
pointer_value e s at (pointer.This place) = this_pointer_value at e.this_class

-- E19: a number where a pointer is needed
abbrev pub as_pointer : ℕ → TypedOperand → ValueType ClassId → Checked Pointer
as_pointer at v (type.Number t) = fail rule.TypeMismatch at
as_pointer at v (type.Pointer c) = pure (record { operand = v; class = c })

-- a variable or `this`, which must be a pointer
unfoldable pub pointer_of : Setting → Scene → ℕ → PointerText → Checked Pointer
pointer_of e s at x = do
  v ← pointer_value e s at x
  as_pointer at v.operand v.ty

-- E19: a pointer where a number is needed
abbrev pub as_number : ℕ → TypedOperand → ValueType ClassId → Checked Number
as_number at v (type.Number t) = pure (record { operand = v; scalar = t })
as_number at v (type.Pointer c) = fail rule.TypeMismatch at

-- an operand that must be a number
unfoldable pub number_operand : Setting → Scene → ℕ → Operand → Checked Number
number_operand e s at x = do
  v ← operand_of e s at x
  as_number at v.operand v.ty

-- E15: two bases of the class; E16: none
abbrev pub as_base : ℕ → Based → Checked (Option Subobject)
as_base at based.NotBase = fail rule.NotBase at
as_base at based.TwoBases = fail rule.AmbiguousBase at
as_base at (based.Base s) = pure (Some s)

-- the class d as a proper base of c, or none where they are one class
unfoldable pub path_to : Classes → ℕ → ClassId → ClassId → Checked (Option Subobject)
path_to h at c d = if nat_eq c.0 d.0 then pure None else as_base at (base_up h c d)

-- no path leads to the same class
abbrev pub conversion_by : Option Subobject → Conversion
conversion_by None = conversion.Same
conversion_by (Some s) = conversion.Base s

-- a pointer to c becomes one to d (ISO C++03 4.10 p3)
unfoldable pub class_conversion : Classes → ℕ → ClassId → ClassId → Checked Conversion
class_conversion h at c d = do
  path ← path_to h at c d
  pure (conversion_by path)

-- E19: a number that is no null pointer constant where a pointer is needed, or a pointer where a number is
unfoldable pub conversion_of : Classes → ℕ → ValueType ClassId → Bool → ValueType ClassId → Checked Conversion
conversion_of h at (type.Number t) is_null (type.Number u) = pure (conversion.Number u)
conversion_of h at (type.Number t) true (type.Pointer d) = pure conversion.Null
conversion_of h at (type.Number t) false (type.Pointer d) = fail rule.TypeMismatch at
conversion_of h at (type.Pointer c) is_null (type.Number u) = fail rule.TypeMismatch at
conversion_of h at (type.Pointer c) is_null (type.Pointer d) = class_conversion h at c d

-- a number that goes into a bit-field of n bits becomes what these keep of it (ISO C++03 9.6)
abbrev pub fitted : Option ℕ → Conversion → Conversion
fitted None by = by
fitted (Some n) (conversion.Number t) = conversion.Bits t n
fitted (Some n) (conversion.Bits t m) = conversion.Bits t m
fitted (Some n) conversion.Null = conversion.Null
fitted (Some n) conversion.Same = conversion.Same
fitted (Some n) (conversion.Base s) = conversion.Base s

-- an operand with its conversion
abbrev pub argument : TypedOperand → Conversion → Argument
argument v c = record { operand = v; conversion = c }

-- an operand that becomes a value of the type
unfoldable pub converted_operand : Classes → Setting → Scene → ℕ → ValueType ClassId → Operand → Checked Argument
converted_operand h e s at t x = do
  v ← operand_of e s at x
  c ← conversion_of h at v.ty v.is_null t
  pure (argument v.operand c)
