use Rattle.std.proofs.Common.{arith, ap, ◌∙◌, ◌+◌}
use Rattle.std.specs.List.{sum_by}
use Rattle.cxx_subobject.specs.VirtualBases.{virtual_bases}
use Rattle.abi_tables.specs.invariants.Weights.{cut}
use Rattle.abi_tables.proofs.NumberLemmas.{numbers_end, numbers_none, numbers_push, shared_cut}
use Rattle.abi_tables.proofs.numbers.shared_sums.Goals as goal

pub loop-n-init : goal.loop-n-init
loop-n-init g c = λ f k are also. numbers_none (λ d. f d + sum_by k (virtual_bases c.args.h.now d)) c.new-sums.result.items c.new-sums.ensures.items

pub loop-n-preserved : goal.loop-n-preserved
loop-n-preserved g c = λ f k are also.
    let h = c.args.h.now in
    let full = (g.met.L.SoundLayout.sound c.args.layout.now h c.requires).full.each (record { 0 = c.loop-n.n }) c.layout.result.now c.layout.ensures in
    numbers_push c.loop-n.n (λ d. f d + sum_by k (virtual_bases h d)) c.loop-n.sums.items c.push.new.self.items c.capped-sum.result
    (shared_cut h c.keeps.ensures f k c.args.own.now c.args.shared.now (record { 0 = c.loop-n.n }) c.as_slice.result.now c.class_sum-below.result c.capped-sum.result are also (let lt = c.loop-n-test.true in let e = c.len-n-end.ensures in omega arith) (c.as_slice.ensures ∙ full.virtuals)
    c.class_sum-below.ensures
    (c.capped-sum.ensures ∙ ap (λ n. cut (n + c.class_sum-below.result)) c.number_of.ensures))
    c.in_ok-push.ensures.items (c.loop-n.invariant f k are also)

pub returns : goal.returns
returns g c = λ f k are also. numbers_end c.args.h.now c.loop-n.n c.len-n-end.result (λ d. f d + sum_by k (virtual_bases c.args.h.now d)) c.loop-n.sums.items c.loop-n-test.false c.loop-n.auto.n-end c.len-n-end.ensures (c.loop-n.invariant f k are also)
