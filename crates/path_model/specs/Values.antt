-- Values, the objects of a run, and what a statement sees of them.
--
-- Here and behind, `option_map_or f o d` is f of what o has, or d where it has nothing; `option_map f o` and `option_and_then f o`
-- have nothing there. A last clause of a name alone, such as `other`, holds of every case that no clause before it has.
use Rattle.std.specs.Prelude.{ℕ, ℤ, Bool, List, slice_get, unwrap_or}
use Rattle.cxx_hierarchy.specs.declared.records.ClassId.{ClassId}
use Rattle.cxx_hierarchy.specs.Scalars.{stored_as, kept_in}
use Rattle.cxx_subobject.specs.declared.Subobject.{Subobject}
use Rattle.cxx_subobject.specs.Subobjects.{join}
use Rattle.cxx_subobject.specs.Locations.{ObjectPart}
use Rattle.cxx_program.specs.declared.operand.Variable.{Variable}
use Rattle.cxx_program.specs.declared.operand.Variable.TheVariants.{Global, Local}
use Rattle.cxx_program.specs.declared.operand.TypedOperand.{TypedOperand}
use Rattle.cxx_program.specs.declared.operand.TypedOperand.TheVariants.{Variable as VariableOperand, This, Number as NumberOperand}
use Rattle.cxx_program.specs.declared.operand.Conversion.{Conversion}
use Rattle.cxx_program.specs.declared.operand.Conversion.TheVariants.{Number as ToNumber, Bits as ToBits, Null as ToNull, Same as ToSame, Base as ToBase}
use Rattle.cxx_program.specs.declared.operand.Argument.{Argument}
use Rattle.path_plan.specs.Places.{part}
use Rattle.path_plan.specs.Phases.{Phases}

-- none yet, a number, a null pointer, or a pointer that names a class subobject
pub data Value : Type 0 where
  Unset : Value
  Number : ℤ → Value
  Null : Value
  Pointer : ObjectPart → Value

-- an element of a member that is a number or a pointer
pub record Leaf : Type 0 where
  pub part : ObjectPart
  pub member : ℕ
  pub index : ℕ

-- the heap objects made so far: the class of each, which are closed, the phases of their parts, and the values of their leaves
pub record Objects : Type 0 where
  pub classes : List ClassId
  pub is_closed : ℕ → Bool
  pub phases : Phases
  pub leaf : Leaf → Value

-- what a statement sees: the objects, the globals, and of its own frame `this` and the locals
pub record Sight : Type 0 where
  pub objects : Objects
  pub globals : List Value
  pub this : Value
  pub locals : List Value

-- the value of a variable; one that is not there has none
abbrev pub variable_value : Sight → Variable → Value
variable_value s (Global n) = unwrap_or (slice_get s.globals n) Unset
variable_value s (Local n) = unwrap_or (slice_get s.locals n) Unset

-- the value of an operand
abbrev pub value_of_operand : Sight → TypedOperand → Value
value_of_operand s (VariableOperand x) = variable_value s x
value_of_operand s This = s.this
value_of_operand s (NumberOperand z) = Number z

-- a subobject of the part's class, as a part
abbrev pub inner_part : ObjectPart → Subobject → ObjectPart
inner_part p i = part p.object p.owner (join p.at i)

-- a pointer, moved to a base of its class (ISO C++03 4.10)
abbrev pub to_base : Subobject → Value → Value
to_base i (Pointer p) = Pointer (inner_part p i)
to_base i other = other

-- a number, converted
abbrev pub to_number : (ℤ → ℤ) → Value → Value
to_number f (Number z) = Number (f z)
to_number f other = other

-- a value, converted
abbrev pub converted_to : Value → Conversion → Value
converted_to v (ToNumber t) = to_number (stored_as t) v
converted_to v (ToBits t n) = to_number (kept_in t n) v
converted_to v ToNull = Null
converted_to v ToSame = v
converted_to v (ToBase i) = to_base i v

-- the value of an operand, converted
abbrev pub argument_value : Sight → Argument → Value
argument_value s a = converted_to (value_of_operand s a.operand) a.conversion
