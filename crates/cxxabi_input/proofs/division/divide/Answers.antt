use Rattle.std.proofs.Common.{◌-◌, length, drop, take}
use Rattle.std.proofs.lemmas.List.{take_rest}
use Rattle.cxxabi_input.proofs.Cuts.{left_first, answer_found, answer_none, answer_more}
use Rattle.cxxabi_input.proofs.division.divide.Goals as goal

pub loop-rest-init : goal.loop-rest-init
loop-rest-init c = left_first c.args.input.now

pub returns-then-eq : goal.returns-then-eq
returns-then-eq c =
    let input = c.args.input.now in
    let at = c.loop-rest.at in
    answer_found input at c.line_length-length.result (take (length input - at) (drop at input)) c.as_slice.result.now c.eq.result c.loop-rest.invariant (take_rest input at)
    c.line_length-length.ensures.place c.line_length-length.ensures.within c.eq.ensures c.as_slice.ensures c.min-next.result c.if-eq.true c.min-next.ensures

pub returns-then-length-rest : goal.returns-then-length-rest
returns-then-length-rest c =
    let input = c.args.input.now in
    let at = c.loop-rest.at in
    answer_none input at c.line_length-length.result (take (length input - at) (drop at input)) c.as_slice.result.now c.eq.result c.loop-rest.invariant (take_rest input at)
    c.line_length-length.ensures.place c.line_length-length.ensures.within c.eq.ensures c.as_slice.ensures c.if-eq.false c.if-length-rest.true

pub loop-rest-preserved : goal.loop-rest-preserved
loop-rest-preserved c =
    let input = c.args.input.now in
    let at = c.loop-rest.at in
    answer_more input at c.line_length-length.result (take (length input - at) (drop at input)) c.as_slice.result.now c.eq.result c.loop-rest.invariant (take_rest input at)
    c.line_length-length.ensures.place c.line_length-length.ensures.within c.eq.ensures c.as_slice.ensures c.if-eq.false c.if-length-rest.false
