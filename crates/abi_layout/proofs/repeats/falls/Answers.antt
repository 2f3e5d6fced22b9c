use Rattle.std.proofs.Common.{◌+◌, get_or, subst, sym, arith}
use Rattle.abi_emptybase.specs.declared.Part.{Part}
use Rattle.abi_layout.proofs.rules.HoldingLemmas.{any_default}
use Rattle.abi_layout.proofs.rules.RepeatLemmas.{AreFalling, falls_more, none_falls, none_repeats}
use Rattle.abi_layout.proofs.repeats.falls.Goals as goal

abbrev no_part : Part
no_part = record { class = 0; place = 0 }

pub loop-part-init : goal.loop-part-init
loop-part-init c = none_falls c.args.parts.now 18446744073709551615

pub loop-part-preserved : goal.loop-part-preserved
loop-part-preserved c =
    let parts = c.args.parts.now in
    let i = c.loop-part.part-index in
    let part = get_or parts i no_part in
    subst (AreFalling parts (i + 1)) (sym c.rank-number.ensures)
    (falls_more parts i c.loop-part.bound part c.loop-part-test.true (any_default parts i no_part part c.loop-part-test.true) c.loop-part.invariant (let is = c.rank-number.ensures in let low = c.if-number-bound.false in omega (arith, is, low)))

pub returns : goal.returns
returns c = λ e. none_repeats c.args.parts.now c.loop-part.part-index c.loop-part.bound c.loop-part-test.false c.loop-part.invariant
