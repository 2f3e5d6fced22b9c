use Rattle.std.proofs.Common.{arith}
use Rattle.abi_foreign.proofs.Digits.{next_value, too_much}
use Rattle.abi_foreign.proofs.pieces.value_of.Goals as goal

pub returns-then-value : goal.returns-then-value
returns-then-value c = too_much c.args.digits.now c.loop-d.d-index c.loop-d.value c.loop-d-test.true c.loop-d.invariant.0 (let large = c.if-value.true in omega arith)

pub loop-d-preserved : goal.loop-d-preserved
loop-d-preserved c = next_value c.args.digits.now c.loop-d.d-index c.loop-d.value c.requires c.loop-d-test.true c.loop-d.invariant.0 (let low = c.if-value.false in omega arith)
