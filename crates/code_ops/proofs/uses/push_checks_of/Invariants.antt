use Rattle.std.proofs.Common.{◌≡◌, ◌++◌, take, map}
use Rattle.std.specs.List.{flat_map}
use Rattle.byte_code.specs.declared.op.Finish.TheVariants.{Check as CheckOp}
use Rattle.code_ops.specs.Uses.{checks_of}
use Rattle.code_ops.proofs.uses.push_checks_of.Given as goal

abbrev pub invariant-loop-used : goal.invariant-loop-used
invariant-loop-used l = l.list ≡ l.fn.list ++ map CheckOp (flat_map (checks_of l.rule) (take l.used-index l.uses))
