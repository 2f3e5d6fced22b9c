use Rattle.std.proofs.Common.{◌≡◌, ◌++◌}
use Rattle.cxx_record_parser.proofs.gather.append.Given as goal

abbrev pub invariant-loop-body : goal.invariant-loop-body
invariant-loop-body l = l.bodies ≡ l.fn.bodies ++ l.yielded
