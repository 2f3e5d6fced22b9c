use Rattle.std.proofs.Common.{◌≡◌, ◌++◌, take}
use Rattle.byte_machine.specs.Calls.{register_words}
use Rattle.byte_machine.specs.invariants.States.{running_of}
use Rattle.byte_machine.proofs.entering.push_words.Given as goal

abbrev pub invariant-loop-number : goal.invariant-loop-number
invariant-loop-number g l = l.registers.items ≡ l.initial.registers.items ++ register_words (running_of l.running) (take l.number-index l.arguments)
