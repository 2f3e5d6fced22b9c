-- When a turn of the byte machine agrees with a move of the subobject machine.
use Rattle.std.specs.Prelude.{◌≡◌, ℕ, ◌+◌, Bool, true, false, nat_eq, List}
use Rattle.cxx_hierarchy.specs.Stops.{limit_no}
use Rattle.path_rules.specs.Rules.{undefined_no}
use Rattle.path_model.specs.declared.outs.Out.{Out}
use Rattle.path_model.specs.States.{ProgramState}
use Rattle.path_model.specs.Runs.{Move, Moves, IsRefused, IsLimited, IsOver, IsWrong, move}
use Rattle.byte_code.specs.declared.code.Code.{Code}
use Rattle.byte_machine.specs.declared.turn.MachineTurn.{MachineTurn}
use Rattle.byte_machine.specs.declared.turn.MachineTurn.TheVariants.{Went, Ended, Refused, OutOfSteps, Limit}
use Rattle.byte_machine.specs.declared.turn.RawOut.{RawOut}
use Rattle.byte_machine.specs.Running.{Fixed}
use Rattle.byte_machine.specs.Turn.{ByteState as Bytes}
use Rattle.code_ops.specs.Setups.{Setup, places}
use Rattle.abi_slots.specs.declared.code_numbers.CodeRow.{CodeRow}
use Rattle.agree_relation.specs.Words.{heap_of}
use Rattle.agree_relation.specs.Agrees.{ReadAs}
use Rattle.abi_refine.specs.Standing.{StandsInSomeWorld, state_after}

-- one step was taken
pub record CountsOn (b b' : Bytes) : Type 0 where
  pub taken : b'.taken ≡ b.taken + 1
  pub left : b'.left + 1 ≡ b.left

-- it stands for the state that follows, and what it tells reads there as what the step tells
pub record WentTo (x : Setup) (code : Code) (numbers : List CodeRow) (f : Fixed) (s : ProgramState) (outs : List Out) (b' : Bytes) (told : List RawOut) : Type 0 where
  pub stands : StandsInSomeWorld x code numbers f s b'
  pub reads : ReadAs stands.world stands.is.world.lowered.at (heap_of s.objects.classes b'.memory.regions) told outs

-- a turn that runs a block stands for the state that follows, or gives the answer of the refusal, the limit or the end
abbrev pub AgreesTurn : Setup → Code → List CodeRow → Fixed → Move → Bytes → List RawOut → MachineTurn → Type 0
AgreesTurn x code numbers f (Moves s outs) b' told turn = WentTo x code numbers f s outs b' told × (turn ≡ Went)
AgreesTurn x code numbers f (IsRefused rule line) b' told turn = turn ≡ Refused (undefined_no rule) line
AgreesTurn x code numbers f (IsLimited limit) b' told turn = turn ≡ Limit (limit_no limit)
AgreesTurn x code numbers f IsOver b' told turn = turn ≡ Ended
AgreesTurn x code numbers f IsWrong b' told turn = ⊥

abbrev pub AgreesBy : Bool → Setup → Code → List CodeRow → Fixed → Move → Bytes → Bytes → List RawOut → MachineTurn → Type 0
AgreesBy true x code numbers f move b b' told turn = (turn ≡ OutOfSteps) × (b'.taken ≡ b.taken)
AgreesBy false x code numbers f move b b' told turn = AgreesTurn x code numbers f move b' told turn × CountsOn b b'

-- a turn from b, which may have no step left, agrees with the move
abbrev pub Agreed : Setup → Code → List CodeRow → Fixed → Move → Bytes → Bytes → List RawOut → MachineTurn → Type 0
Agreed x code numbers f move b b' told turn = AgreesBy (nat_eq b.left 0) x code numbers f move b b' told turn

-- where the run of a program moves after n steps
abbrev pub move_after : Setup → ℕ → Move
move_after x n = move x.h (places x).size x.program (state_after x n)

-- a turn from b agrees with the move that is next after the steps that b has taken
abbrev pub AgreedNext : Setup → Code → List CodeRow → Fixed → Bytes → Bytes → List RawOut → MachineTurn → Type 0
AgreedNext x code numbers f b b' told turn = Agreed x code numbers f (move_after x b.taken) b b' told turn
