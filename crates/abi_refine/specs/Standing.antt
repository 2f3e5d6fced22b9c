-- When a byte state stands for a state of a program, over some tables in the image of a machine and the code that it runs.
use Rattle.std.specs.Prelude.{ℕ, List}
use Rattle.path_model.specs.States.{ProgramState}
use Rattle.path_model.specs.Runs.{state_at}
use Rattle.byte_code.specs.declared.code.Code.{Code}
use Rattle.byte_machine.specs.Running.{Fixed}
use Rattle.byte_machine.specs.Turn.{ByteState as Bytes}
use Rattle.code_ops.specs.Setups.{Setup, places}
use Rattle.abi_slots.specs.declared.code_numbers.CodeRow.{CodeRow}
use Rattle.agree_relation.specs.Worlds.{World}
use Rattle.agree_relation.specs.Stands.{StandsForState}
use Rattle.abi_world.specs.Worlds.{IsWorldOf}

-- a byte state stands for a state, in some such world
pub record StandsInSomeWorld (x : Setup) (code : Code) (numbers : List CodeRow) (f : Fixed) (s : ProgramState) (b : Bytes) : Type 0 where
  pub world : World
  pub is : IsWorldOf x code numbers f world
  pub stands : StandsForState world is.world.lowered.at s b

-- the state of a program after n steps, with the sizes of its layout
abbrev pub state_after : Setup → ℕ → ProgramState
state_after x n = state_at x.h (places x).size x.program n
