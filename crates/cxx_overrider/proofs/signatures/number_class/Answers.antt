use Rattle.std.proofs.Common.{ℕ, List, length, subst, sym, ap, arith, length-append}
use Rattle.cxx_overrider.proofs.Numbering.{HasFirsts, firsts_more}
use Rattle.cxx_overrider.proofs.signatures.number_class.Goals as goal

pub loop-index-preserved : goal.loop-index-preserved
loop-index-preserved c =
    let old = c.loop-index.firsts.items in
    let new = c.number_function.new.firsts.items in
    let e = c.in_ok-push.ensures.ok in
    let size = ap length e in
    record {
      firsts = c.in_ok-number_function.ensures.firsts;
      keyed = c.in_ok-number_function.ensures.keyed;
      kept = λ g n k. c.in_ok-number_function.ensures.kept g n (c.loop-index.invariant.kept g n k);
      size = let n = c.loop-index.invariant.size in omega (arith, size, length-append {A = ℕ});
      each = subst (λ (x : List ℕ). HasFirsts c.args.h.now new c.args.c x) (sym e)
          (firsts_more c.args.h.now old new c.args.c c.loop-index.row c.loop-index.index c.in_ok-number_function.field-0 c.loop-index.invariant.each c.in_ok-number_function.ensures.kept c.loop-index.invariant.size c.in_ok-number_function.ensures.first);
    }
