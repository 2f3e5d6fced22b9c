use Rattle.std.proofs.Common.{◌≡◌}
use Rattle.cxxabi_cmd.specs.Output.{first_classes}
use Rattle.cxxabi_cmd.proofs.list_answer.all_classes.Given as goal

abbrev pub invariant-loop-n : goal.invariant-loop-n
invariant-loop-n l = l.list.items ≡ first_classes l.n
