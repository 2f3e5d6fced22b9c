use Rattle.std.proofs.Common.{◌≡◌, ◌++◌, take, map}
use Rattle.std.specs.List.{flat_map}
use Rattle.byte_code.specs.declared.op.Finish.TheVariants.{Check as CheckOp}
use Rattle.code_ops.specs.Uses.{checks_of}
use Rattle.code_ops.proofs.uses.push_by_rules.Given as goal

abbrev pub invariant-loop-rule : goal.invariant-loop-rule
invariant-loop-rule l = l.list ≡ l.fn.list ++ map CheckOp (flat_map (λ rule. flat_map (checks_of rule) l.uses) (take l.rule-index l.rules))
