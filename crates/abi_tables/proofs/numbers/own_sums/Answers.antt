use Rattle.std.proofs.Common.{arith, ap, sym, ◌∙◌, ◌+◌, List, ℕ}
use Rattle.cxx_hierarchy.specs.Classes.{bases_in}
use Rattle.cxx_subobject.specs.invariants.Counts.{own_bases, own_of}
use Rattle.abi_tables.specs.invariants.Weights.{cut, number_by_class}
use Rattle.abi_tables.proofs.NumberLemmas.{numbers_end, numbers_none, numbers_push, own_cut}
use Rattle.abi_tables.proofs.numbers.own_sums.Goals as goal

pub loop-n-init : goal.loop-n-init
loop-n-init c = λ f are. numbers_none (own_of f c.args.h.now) c.new-sums.result.items c.new-sums.ensures.items

pub loop-n-preserved : goal.loop-n-preserved
loop-n-preserved c = λ f are.
    let h = c.args.h.now in
    numbers_push c.loop-n.n (own_of f h) c.loop-n.sums.items c.push.new.self.items c.capped-sum.result
    (own_cut h c.keeps.ensures f c.args.weights.now c.loop-n.sums.items (record { 0 = c.loop-n.n }) c.as_slice.result.now c.base_sum-below.result c.capped-sum.result are (c.loop-n.invariant f are) (let lt = c.loop-n-test.true in let e = c.len-n-end.ensures in omega arith) (c.as_slice.ensures ∙ sym (ap bases_in c.class-class.ensures))
    (c.base_sum-below.ensures ∙ ap (λ (ks : List ℕ). cut (own_bases (number_by_class ks) c.as_slice.result.now)) c.deref.ensures.value)
    (c.capped-sum.ensures ∙ ap (λ k. cut (k + c.base_sum-below.result)) c.number_of.ensures))
    c.in_ok-push.ensures.items (c.loop-n.invariant f are)

pub returns : goal.returns
returns c = λ f are. numbers_end c.args.h.now c.loop-n.n c.len-n-end.result (own_of f c.args.h.now) c.loop-n.sums.items c.loop-n-test.false c.loop-n.auto.n-end c.len-n-end.ensures (c.loop-n.invariant f are)
