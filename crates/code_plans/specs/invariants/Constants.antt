-- Initializers give constants.
use Rattle.std.specs.Prelude.{◌≤◌}
use Rattle.cxx_program.specs.declared.operand.TypedOperand.{TypedOperand}
use Rattle.cxx_program.specs.declared.operand.TypedOperand.TheVariants.{Variable, This, Number}
use Rattle.cxx_program.specs.declared.operand.Conversion.{Conversion}
use Rattle.cxx_program.specs.declared.operand.Conversion.TheVariants.{Number as ToNumber, Bits as ToBits, Null as ToNull, Same as ToSame, Base as ToBase}
use Rattle.cxx_program.specs.declared.program.TypedInit.{TypedInit}

-- the operand is a number
abbrev pub IsNumberOperand : TypedOperand → Type 0
IsNumberOperand (Variable x) = ⊥
IsNumberOperand This = ⊥
IsNumberOperand (Number z) = Unit {0}

-- the conversion is none to a base, and one to bits fits a register
abbrev pub IsPlain : Conversion → Type 0
IsPlain (ToNumber t) = Unit {0}
IsPlain (ToBits t n) = n ≤ 64
IsPlain ToNull = Unit {0}
IsPlain ToSame = Unit {0}
IsPlain (ToBase i) = ⊥

-- the initializer gives a number, by a conversion that is none to a base
pub record IsConstant (init : TypedInit) : Type 0 where
  pub operand : IsNumberOperand init.operand
  pub conversion : IsPlain init.conversion
