use Rattle.std.proofs.Common.{◌∙◌, get_or, sym}
use Rattle.abi_emptybase.specs.declared.Part.{Part}
use Rattle.abi_layout.proofs.lists.Each.{never, always}
use Rattle.abi_layout.proofs.rules.HoldingLemmas.{any_default}
use Rattle.abi_layout.proofs.rules.RepeatLemmas.{repeated, single_more, none_twice}
use Rattle.abi_layout.proofs.repeats.has_repeat.Goals as goal

abbrev no_part : Part
no_part = record { class = 0; place = 0 }

pub returns-then-is_in : goal.returns-then-is_in
returns-then-is_in c =
    let parts = c.args.parts.now in
    let i = c.loop-part.part-index in
    let part = get_or parts i no_part in
    always (repeated parts c.loop-part.table i part c.loop-part-test.true (any_default parts i no_part part c.loop-part-test.true) c.loop-part.invariant (sym c.is_in.ensures ∙ c.if-is_in.true))

pub returns-then-falls : goal.returns-then-falls
returns-then-falls c = never (c.falls.ensures c.if-falls.true)

pub loop-part-preserved : goal.loop-part-preserved
loop-part-preserved c =
    let parts = c.args.parts.now in
    let i = c.loop-part.part-index in
    let part = get_or parts i no_part in
    single_more parts c.loop-part.table c.put.new.table i part c.loop-part-test.true (any_default parts i no_part part c.loop-part-test.true) c.loop-part.invariant (sym c.is_in.ensures ∙ c.if-is_in.false) c.in_ok-put.ensures

pub returns : goal.returns
returns c = never (none_twice c.args.parts.now c.loop-part.table c.loop-part.part-index c.loop-part-test.false c.loop-part.invariant)
