use Rattle.std.proofs.Common.{arith}
use Rattle.cxx_text.proofs.Pieces.{too_large}
use Rattle.cxx_text.proofs.longest.decimal.Goals as goal

pub returns-then-value-digit : goal.returns-then-value-digit
returns-then-value-digit c =
    too_large c.loop-d.value c.loop-d.d-index c.args.digits.now c.loop-d-test.true (omega (arith, c.from-digit.ensures, c.if-value-digit.true)) c.loop-d.invariant.value
