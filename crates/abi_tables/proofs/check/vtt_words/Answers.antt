use Rattle.std.proofs.Common.{◌≡◌, subst, length, arith, refl}
use Rattle.abi_tables.specs.Counts.{vtts_before_class}
use Rattle.abi_tables.specs.invariants.Weights.{cut}
use Rattle.abi_tables.proofs.CheckLemmas.{one_vtt_more}
use Rattle.abi_tables.proofs.check.vtt_words.Goals as goal

pub loop-n-init : goal.loop-n-init
loop-n-init c = λ p are. refl

pub loop-n-preserved : goal.loop-n-preserved
loop-n-preserved c = λ p are.
    one_vtt_more c.args.h.now p c.loop-n.n c.loop-n.sum c.vtt_len.result c.capped-sum.result (c.loop-n.invariant p are)
    (c.vtt_len.ensures c.args.h.now p are (let lt = c.loop-n-test.true in let e = c.len-n-end.ensures in omega arith)) c.capped-sum.ensures

pub returns : goal.returns
returns c = λ p are.
    let all : c.loop-n.n ≡ length c.args.h.now = let low = c.loop-n-test.false in let high = c.loop-n.auto.n-end in let e = c.len-n-end.ensures in omega arith in
    subst (λ n. c.loop-n.sum ≡ cut (vtts_before_class c.args.h.now p n)) all (c.loop-n.invariant p are)
