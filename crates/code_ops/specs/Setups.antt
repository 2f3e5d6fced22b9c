-- What is lowered: a program over a hierarchy and a layout; and the routines that become code.
use Rattle.std.specs.Prelude.{ℕ, ◌+◌, true, false, Option, Some, None, List, length}
use Rattle.cxx_hierarchy.specs.declared.records.ClassId.{ClassId}
use Rattle.cxx_hierarchy.specs.declared.records.Scalar.{Scalar}
use Rattle.cxx_hierarchy.specs.declared.records.Scalar.TheVariants.{Bool as TheBool, Char, SChar, UChar, Short, UShort, Int, UInt, Long, ULong, LongLong, ULongLong}
use Rattle.cxx_hierarchy.specs.declared.records.ValueType.{ValueType}
use Rattle.cxx_hierarchy.specs.declared.records.ValueType.TheVariants.{Number as NumberType, Pointer as PointerType}
use Rattle.cxx_hierarchy.specs.Classes.{Classes}
use Rattle.cxx_overrider.specs.declared.FunctionId.{FunctionId}
use Rattle.cxx_program.specs.declared.program.Owner.{Owner}
use Rattle.cxx_program.specs.declared.program.Owner.TheVariants.{Main, Function, Constructor, Destructor}
use Rattle.cxx_program.specs.declared.program.TypedBody.{TypedBody}
use Rattle.cxx_program.specs.declared.program.TypedProgram.{TypedProgram}
use Rattle.path_plan.specs.declared.form.Form.{Form}
use Rattle.code_ops.specs.declared.routines.Course.{Course}
use Rattle.code_ops.specs.declared.routines.Course.TheVariants.{Constructs, Destroys, Deletes}
use Rattle.path_model.specs.States.{owned_body}
use Rattle.abi_sound.specs.Places.{Places, places_of}
use Rattle.abi_sound.specs.declared.class_layout.ClassLayout.{ClassLayout}
use Rattle.byte_code.specs.declared.width.Width.{Width}
use Rattle.byte_code.specs.declared.width.BitWidth.{BitWidth}
use Rattle.byte_code.specs.declared.op.NumberKind.{NumberKind}
use Rattle.byte_code.specs.declared.op.NumberKind.TheVariants.{Truth, Bytes}

-- the classes, what a layout gives for each, and the program
pub record Setup : Type 0 where
  pub h : Classes
  pub rows : List ClassLayout
  pub program : TypedProgram

abbrev pub setup : Classes → List ClassLayout → TypedProgram → Setup
setup h rows program = record { h = h; rows = rows; program = program }

abbrev pub places : Setup → Places
places x = places_of x.h x.rows

-- what becomes code of its own: `main`, each function, and each plan of a class, for a complete object or for a base (Itanium C++ ABI 5.1.4.3)
pub data Routine : Type 0 where
  MainCode : Routine
  FunctionCode : FunctionId → Routine
  PlanCode : Course → Form → ClassId → Routine

-- whose body a plan runs
abbrev pub plan_owner : Course → ClassId → Owner
plan_owner Constructs c = Constructor c
plan_owner Destroys c = Destructor c
plan_owner Deletes c = Destructor c

abbrev pub routine_owner : Routine → Owner
routine_owner MainCode = Main
routine_owner (FunctionCode f) = Function f
routine_owner (PlanCode course form c) = plan_owner course c

-- the body of a routine, if one is declared
abbrev pub body_of_routine : Setup → Routine → Option TypedBody
body_of_routine x r = owned_body x.program (routine_owner r)

-- registers: `this` is the first, then come the locals, one that nothing writes, and those that are free for the ops of a block

abbrev pub locals_in : Option TypedBody → ℕ
locals_in None = 0
locals_in (Some body) = length body.locals

abbrev pub local_register : ℕ → ℕ
local_register n = n + 1

abbrev pub spare_register : Option TypedBody → ℕ
spare_register body = locals_in body + 1

abbrev pub free_register : Option TypedBody → ℕ → ℕ
free_register body n = locals_in body + 2 + n

-- types

-- the bytes of a number type, and how they are read (System V x86-64)
abbrev pub width_of : Scalar → Width
width_of TheBool = record { bytes = 1; signed = false }
width_of Char = record { bytes = 1; signed = true }
width_of SChar = record { bytes = 1; signed = true }
width_of UChar = record { bytes = 1; signed = false }
width_of Short = record { bytes = 2; signed = true }
width_of UShort = record { bytes = 2; signed = false }
width_of Int = record { bytes = 4; signed = true }
width_of UInt = record { bytes = 4; signed = false }
width_of Long = record { bytes = 8; signed = true }
width_of ULong = record { bytes = 8; signed = false }
width_of LongLong = record { bytes = 8; signed = true }
width_of ULongLong = record { bytes = 8; signed = false }

-- a word, read as an address or as a truth value
abbrev pub word_width : Width
word_width = record { bytes = 8; signed = false }

-- the bytes of a value
abbrev pub value_width : ValueType ClassId → Width
value_width (NumberType t) = width_of t
value_width (PointerType c) = word_width

-- a register that has a number of the type, read whole
abbrev pub register_width : Scalar → Width
register_width t = record { bytes = 8; signed = (width_of t).signed }

-- n bits of a number of the type, read by the sign of the type
abbrev pub bit_width : Scalar → ℕ → BitWidth
bit_width t n = record { bits = n; signed = (width_of t).signed }

-- what a conversion to the type makes of a number (ISO C++03 4.7, 4.12)
abbrev pub number_kind : Scalar → NumberKind
number_kind TheBool = Truth
number_kind t = Bytes (width_of t)
