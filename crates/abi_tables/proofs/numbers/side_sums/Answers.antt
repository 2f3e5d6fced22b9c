use Rattle.std.proofs.Common.{arith, ap, sym, ◌∙◌}
use Rattle.cxx_hierarchy.specs.Classes.{bases_in}
use Rattle.abi_sound.specs.Places.{places_of}
use Rattle.abi_tables.specs.invariants.Weights.{sides}
use Rattle.abi_tables.proofs.NumberLemmas.{numbers_none, numbers_push, numbers_end, side_cut}
use Rattle.abi_tables.proofs.numbers.side_sums.Goals as goal

pub loop-n-init : goal.loop-n-init
loop-n-init g c = λ f are. numbers_none (sides c.args.h.now (places_of c.args.h.now (g.L.SoundLayout.rows c.args.layout.now)) f) c.new-sums.result.items c.new-sums.ensures.items

pub loop-n-preserved : goal.loop-n-preserved
loop-n-preserved g c = λ f are.
    let h = c.args.h.now in
    let l = places_of h (g.L.SoundLayout.rows c.args.layout.now) in
    numbers_push c.loop-n.n (sides h l f) c.loop-n.sums.items c.push.new.self.items c.side_sum-sum.result
    (c.side_sum-sum.ensures ∙ side_cut h c.keeps.ensures l f c.args.heads.now (record { 0 = c.loop-n.n }) c.as_slice.result.now are (let lt = c.loop-n-test.true in let e = c.len-n-end.ensures in omega arith) (c.as_slice.ensures ∙ sym (ap bases_in c.class-class.ensures)))
    c.in_ok-push.ensures.items (c.loop-n.invariant f are)

pub returns : goal.returns
returns g c = λ f are. numbers_end c.args.h.now c.loop-n.n c.len-n-end.result (sides c.args.h.now (places_of c.args.h.now (g.L.SoundLayout.rows c.args.layout.now)) f) c.loop-n.sums.items c.loop-n-test.false c.loop-n.auto.n-end c.len-n-end.ensures (c.loop-n.invariant f are)
