-- The ops that read operands and convert values.
use Rattle.std.specs.Prelude.{ℕ, Option, Some, None, List, [], ◌∷◌, map}
use Rattle.cxx_hierarchy.specs.declared.records.ClassId.{ClassId}
use Rattle.cxx_hierarchy.specs.declared.records.ValueType.{ValueType}
use Rattle.cxx_hierarchy.specs.declared.records.ValueType.TheVariants.{Number as NumberType, Pointer as PointerType}
use Rattle.cxx_subobject.specs.declared.Root.{Root}
use Rattle.cxx_subobject.specs.declared.Root.TheVariants.{Whole, Shared}
use Rattle.cxx_subobject.specs.declared.Subobject.{Subobject}
use Rattle.cxx_subobject.specs.Subobjects.{subobject}
use Rattle.cxx_program.specs.declared.operand.Variable.{Variable}
use Rattle.cxx_program.specs.declared.operand.Variable.TheVariants.{Global, Local}
use Rattle.cxx_program.specs.declared.operand.TypedOperand.{TypedOperand}
use Rattle.cxx_program.specs.declared.operand.TypedOperand.TheVariants.{Variable as VariableOperand, This, Number as NumberOperand}
use Rattle.cxx_program.specs.declared.operand.Conversion.{Conversion}
use Rattle.cxx_program.specs.declared.operand.Conversion.TheVariants.{Number as ToNumber, Bits as ToBits, Null as ToNull, Same as ToSame, Base as ToBase}
use Rattle.cxx_program.specs.Typed.{Scope, variable_type}
use Rattle.abi_slots.specs.Listing.{vbase_number}
use Rattle.abi_slots.specs.Slots.{word_number}
use Rattle.path_model.specs.Outs.{class_or_first}
use Rattle.byte_code.specs.declared.op.Op.{Op}
use Rattle.byte_code.specs.declared.op.Op.TheVariants.{Does, Const, ReadGlobal}
use Rattle.byte_code.specs.declared.op.Finish.{Finish}
use Rattle.byte_code.specs.declared.op.Finish.TheVariants.{Add, AddVbase, Convert, Move, WriteGlobal}
use Rattle.byte_code.specs.declared.op.NumberKind.TheVariants.{Bytes, Bits}
use Rattle.byte_code.specs.Numbers.{word_of}
use Rattle.code_ops.specs.Setups.{Setup, places, local_register, number_kind, bit_width, word_width}

-- operands

-- the class that a pointer type points to
abbrev pub pointed : ValueType ClassId → Option ClassId
pointed (NumberType t) = None
pointed (PointerType c) = Some c

abbrev pub pointed_in : Option (ValueType ClassId) → Option ClassId
pointed_in None = None
pointed_in (Some type) = pointed type

-- the class that an operand points to, if it is a pointer
abbrev pub operand_class : Scope → TypedOperand → Option ClassId
operand_class e (VariableOperand x) = pointed_in (variable_type e x)
operand_class e This = e.this
operand_class e (NumberOperand z) = None

-- an operand that is no local and not `this` is read into a register
abbrev pub operand_ops : ℕ → TypedOperand → List Op
operand_ops r (VariableOperand (Global n)) = ReadGlobal r n ∷ []
operand_ops r (VariableOperand (Local n)) = []
operand_ops r This = []
operand_ops r (NumberOperand z) = Const r (word_of z) ∷ []

-- the register that an operand has then
abbrev pub operand_register : ℕ → TypedOperand → ℕ
operand_register r (VariableOperand (Global n)) = r
operand_register r (VariableOperand (Local n)) = local_register n
operand_register r This = 0
operand_register r (NumberOperand z) = r

-- conversions

-- from the address of an object of class c to that of its subobject i: by a constant, or by the word of a virtual base and then by a constant (Itanium C++ ABI 2.5.2)
abbrev pub base_moves : Setup → ClassId → Subobject → (to from : ℕ) → Root → List Finish
base_moves x c i to from Whole = Add to from ((places x).place c i) ∷ []
base_moves x c i to from (Shared v) = AddVbase to from (word_number (vbase_number x.h (places x) c v)) ∷ Add to to ((places x).place v (subobject Whole i.path)) ∷ []

abbrev pub base_ops : Setup → ClassId → Subobject → (to from : ℕ) → List Finish
base_ops x c i to from = base_moves x c i to from i.root

-- a value of a register, of class c if it is a pointer, becomes another one; a bit-field keeps the low bits of what its type keeps
-- (ISO C++03 9.6)
abbrev pub converted_ops : Setup → Option ClassId → Conversion → (to from : ℕ) → List Finish
converted_ops x class (ToNumber t) to from = Convert to from (number_kind t) ∷ []
converted_ops x class (ToBits t n) to from = Convert to from (number_kind t) ∷ Convert to to (Bits (bit_width t n)) ∷ []
converted_ops x class ToNull to from = Convert to from (Bytes word_width) ∷ []
converted_ops x class ToSame to from = Move to from ∷ []
converted_ops x class (ToBase i) to from = base_ops x (class_or_first class) i to from

-- a variable takes a register
abbrev pub assign_op : Variable → ℕ → Finish
assign_op (Global n) from = WriteGlobal n from
assign_op (Local n) from = Move (local_register n) from

abbrev pub ops_of : List Finish → List Op
ops_of list = map Does list
