-- The world that a machine's code and image are of.
use Rattle.std.specs.Prelude.{◌≡◌, ℕ, List}
use Rattle.byte_code.specs.declared.code.Code.{Code}
use Rattle.byte_code.specs.declared.code.ImageBytes.{ImageBytes}
use Rattle.byte_machine.specs.Running.{Fixed}
use Rattle.byte_machine.specs.Turn.{fixed_of}
use Rattle.code_ops.specs.Setups.{Setup}
use Rattle.abi_slots.specs.declared.code_numbers.CodeRow.{CodeRow}
use Rattle.agree_relation.specs.Worlds.{World, IsProgramWorld, fixed}

-- the world of a program, with this code and these numbers of its functions, and what no op of its machine changes
pub record IsWorldOf (x : Setup) (code : Code) (numbers : List CodeRow) (f : Fixed) (w : World) : Type 0 where
  pub world : IsProgramWorld w
  pub setup : w.setup ≡ x
  pub code_is : w.code ≡ code
  pub numbers_are : w.numbers ≡ numbers
  pub fixed_is : fixed w ≡ f

-- there is one, where a cast has room for so many parts
pub record HasWorld (x : Setup) (code : Code) (numbers : List CodeRow) (image : ImageBytes) (parts : ℕ) : Type 0 where
  pub world : World
  pub is : IsWorldOf x code numbers (fixed_of image code parts) world
