use Rattle.std.proofs.Common.{◌≡◌, ◌++◌, take}
use Rattle.code_ops.specs.Operands.{ops_of}
use Rattle.code_ops.proofs.operands.push_done.Given as goal

abbrev pub invariant-loop-op : goal.invariant-loop-op
invariant-loop-op l = l.ops ≡ l.fn.ops ++ ops_of (take l.op-index l.list)
