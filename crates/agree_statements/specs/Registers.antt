-- Within a block: the running state is the one in which the block began, but for registers of the frame on top.
use Rattle.std.specs.Prelude.{◌≡◌, ℕ, Option, List, length}
use Rattle.path_model.specs.Values.{Value}
use Rattle.path_model.specs.States.{RunningBody as Body}
use Rattle.byte_machine.specs.Frames.{MachineFrame, register_of}
use Rattle.byte_machine.specs.Running.{Running}

-- the same with other registers
abbrev pub at_registers : Running → List (Option ℕ) → Running
at_registers s registers = record s { top = record s.top { registers = registers } }

-- one register is another, at most
pub record Wrote (r : ℕ) (old new : List (Option ℕ)) : Type 0 where
  pub size : length new ≡ length old
  pub other : (q : ℕ) → (q ≡ r → ⊥) → register_of new q ≡ register_of old q

-- a body and a frame that go on: other locals and registers, and what is next
abbrev pub body_on : Body → List Value → ℕ → Body
body_on f locals next = record f { locals = locals; next = next }

abbrev pub frame_on : MachineFrame → List (Option ℕ) → ℕ → MachineFrame
frame_on b registers block = record b { registers = registers; block = block }
