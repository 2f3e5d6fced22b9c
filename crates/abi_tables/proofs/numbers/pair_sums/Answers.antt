use Rattle.std.proofs.Common.{arith, ◌∙◌, ◌+◌}
use Rattle.abi_tables.proofs.NumberLemmas.{cut_sum, numbers_end, numbers_none, numbers_push}
use Rattle.abi_tables.proofs.numbers.pair_sums.Goals as goal

pub loop-n-init : goal.loop-n-init
loop-n-init c = λ f g are also. numbers_none (λ d. f d + g d) c.new-sums.result.items c.new-sums.ensures.items

pub loop-n-preserved : goal.loop-n-preserved
loop-n-preserved c = λ f g are also.
    numbers_push c.loop-n.n (λ d. f d + g d) c.loop-n.sums.items c.push.new.self.items c.capped-sum.result
    (c.capped-sum.ensures ∙ cut_sum (f (record { 0 = c.loop-n.n })) (g (record { 0 = c.loop-n.n })) c.number_of.result c.number_of-in-loop-n.result (c.number_of.ensures ∙ are.each (record { 0 = c.loop-n.n }) (let lt = c.loop-n-test.true in let e = c.len-n-end.ensures in omega arith)) (c.number_of-in-loop-n.ensures ∙ also.each (record { 0 = c.loop-n.n }) (let lt = c.loop-n-test.true in let e = c.len-n-end.ensures in omega arith)))
    c.in_ok-push.ensures.items (c.loop-n.invariant f g are also)

pub returns : goal.returns
returns c = λ f g are also. numbers_end c.args.h.now c.loop-n.n c.len-n-end.result (λ d. f d + g d) c.loop-n.sums.items c.loop-n-test.false c.loop-n.auto.n-end c.len-n-end.ensures (c.loop-n.invariant f g are also)
