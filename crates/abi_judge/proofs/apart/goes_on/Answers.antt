use Rattle.foundation.proofs.Truth.{always, never, not_both}
use Rattle.abi_judge.proofs.Sorted.{no_span, span_next, spans_found, spans_done}
use Rattle.abi_judge.proofs.apart.goes_on.Goals as goal

pub loop-i-preserved : goal.loop-i-preserved
loop-i-preserved c = span_next c.args.spans.now c.loop-i.i no_span c.requires.long c.loop-i.auto.i c.loop-i-test.true c.loop-i.invariant (λ meet. not_both (c.goes_into.ensures.1 meet) c.if-goes_into.false)

pub returns-then-goes_into : goal.returns-then-goes_into
returns-then-goes_into c = always (spans_found c.args.spans.now c.loop-i.i no_span c.requires.sorted c.requires.long c.loop-i.auto.i c.loop-i-test.true (c.goes_into.ensures.0 c.if-goes_into.true))

pub returns : goal.returns
returns c = never (λ none. none (spans_done c.args.spans.now c.loop-i.i c.requires.sorted c.loop-i-test.false c.loop-i.invariant))
