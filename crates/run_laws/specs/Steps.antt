-- How many steps a run of the byte machine has taken.
use Rattle.std.specs.Prelude.{◌≡◌, ℕ, ◌+◌, List}
use Rattle.byte_code.specs.declared.code.Code.{Code}
use Rattle.byte_machine.specs.Running.{Fixed}
use Rattle.byte_machine.specs.Turn.{ByteState}
use Rattle.text_told.specs.declared.ending.End.{End}
use Rattle.text_told.specs.declared.ending.End.TheVariants.{Done, Undefined, OutOfSteps, Limit}
use Rattle.abi_refine.specs.Reaches.{Lines, ReachesWith, none, further, Executes}

-- how many turns lead to a state
abbrev pub turn_count : {f : Fixed} {code : Code} {lines : Lines} {b b' : ByteState} {text : List ℕ} → ReachesWith f code lines b b' text → ℕ
turn_count none = 0
turn_count (further mid b' text told before last) = turn_count before + 1

-- the turn that ends a run is a step too, unless no step was left
abbrev pub closing_step : End → ℕ
closing_step Done = 1
closing_step (Undefined rule line) = 1
closing_step OutOfSteps = 0
closing_step (Limit limit) = 1

-- how many steps a run takes
abbrev pub step_count : {f : Fixed} {code : Code} {lines : Lines} {b b' : ByteState} {text : List ℕ} {end_is : End} → Executes f code lines b b' text end_is → ℕ
step_count {f} {code} {lines} {b} {b'} {text} {end_is} run = turn_count run.reaches + closing_step end_is

-- from b to b' so many steps were taken, of those that were left
pub record TakesSteps (n : ℕ) (b b' : ByteState) : Type 0 where
  pub taken : b'.taken ≡ b.taken + n
  pub left : b'.left + n ≡ b.left

-- of the steps that a run was given n are taken and the others are left; where it is out of steps all are taken
pub record HasTaken (steps n : ℕ) (b : ByteState) (end_is : End) : Type 0 where
  pub taken : b.taken ≡ n
  pub all : b.taken + b.left ≡ steps
  pub spent : end_is ≡ OutOfSteps → b.taken ≡ steps
