-- What the ops of a statement need of it: its numbers fit, and its bases are there. Every statement of a typed program within the limits has it.
use Rattle.std.specs.Prelude.{ℕ, ◌<◌, ◌≤◌, ◌^◌, Option, List, [], ◌∷◌, length}
use Rattle.cxx_hierarchy.specs.declared.records.ClassId.{ClassId}
use Rattle.cxx_hierarchy.specs.Classes.{Classes}
use Rattle.cxx_hierarchy.specs.Hierarchies.{IsHierarchy}
use Rattle.cxx_hierarchy.specs.Limits.{most_elements}
use Rattle.cxx_subobject.specs.declared.Subobject.{Subobject}
use Rattle.cxx_subobject.specs.Subobjects.{IsSubobject}
use Rattle.cxx_program.specs.declared.operand.Variable.{Variable}
use Rattle.cxx_program.specs.declared.operand.Variable.TheVariants.{Global, Local}
use Rattle.cxx_program.specs.declared.operand.TypedOperand.{TypedOperand}
use Rattle.cxx_program.specs.declared.operand.TypedOperand.TheVariants.{Variable as VariableOperand, This, Number as NumberOperand}
use Rattle.cxx_program.specs.declared.operand.Conversion.{Conversion}
use Rattle.cxx_program.specs.declared.operand.Conversion.TheVariants.{Number as ToNumber, Bits as ToBits, Null as ToNull, Same as ToSame, Base as ToBase}
use Rattle.cxx_program.specs.declared.operand.Argument.{Argument}
use Rattle.cxx_program.specs.declared.statement.PassedMember.{PassedMember}
use Rattle.cxx_program.specs.declared.statement.TypedPlace.{TypedPlace}
use Rattle.cxx_program.specs.declared.program.TypedBody.{TypedBody}
use Rattle.cxx_program.specs.Typed.{Scope}
use Rattle.path_model.specs.Outs.{class_or_first}
use Rattle.abi_sound.specs.declared.class_layout.ClassLayout.{ClassLayout}
use Rattle.abi_sound.specs.Places.{places_of}
use Rattle.abi_slots.specs.declared.slots.Slots.{Slots}
use Rattle.abi_slots.specs.Slots.{AreSlots}
use Rattle.code_ops.specs.Operands.{operand_class}

-- how many locals a body may have, so that registers have numbers of 32 bits
abbrev pub most_local_registers : ℕ
most_local_registers = 2 ^ 31

-- where the statements of a body stand
pub record IsStatementSite (h : Classes) (rows : List ClassLayout) (slots : Slots) (body : TypedBody) : Type 0 where
  pub keeps : IsHierarchy h
  pub are_slots : AreSlots h (places_of h rows) slots
  pub few_locals : length body.locals < most_local_registers

abbrev pub FitsVariable : Variable → Type 0
FitsVariable (Global n) = n < 2 ^ 32
FitsVariable (Local n) = n < most_local_registers

abbrev pub FitsOperand : TypedOperand → Type 0
FitsOperand (VariableOperand x) = FitsVariable x
FitsOperand This = Unit {0}
FitsOperand (NumberOperand z) = Unit {0}

-- i is a subobject of the class c
pub record FitsBase (h : Classes) (c : ClassId) (i : Subobject) : Type 0 where
  pub known : c.0 < length h
  pub valid : IsSubobject h c i

-- the conversion of a value, of a class if it is a pointer
abbrev pub FitsConversion : Classes → Option ClassId → Conversion → Type 0
FitsConversion h class (ToNumber t) = Unit {0}
FitsConversion h class (ToBits t n) = n ≤ 64
FitsConversion h class ToNull = Unit {0}
FitsConversion h class ToSame = Unit {0}
FitsConversion h class (ToBase i) = FitsBase h (class_or_first class) i

pub record FitsArgument (h : Classes) (e : Scope) (a : Argument) : Type 0 where
  pub operand : FitsOperand a.operand
  pub conversion : FitsConversion h (operand_class e a.operand) a.conversion

-- a class member that is passed is of a class of a smaller number
pub record FitsPassed (h : Classes) (c : ClassId) (p : PassedMember) : Type 0 where
  pub base : FitsBase h c p.base
  pub smaller : p.class.0 < c.0
  pub index : p.index < most_elements

abbrev pub FitsPath : Classes → ClassId → List PassedMember → Subobject → Type 0
FitsPath h c [] base = FitsBase h c base
FitsPath h c (p ∷ passed) base = FitsPassed h c p × FitsPath h p.class passed base

pub record FitsPlace (h : Classes) (place : TypedPlace) : Type 0 where
  pub pointer : FitsOperand place.pointer
  pub path : FitsPath h place.class place.passed place.base
