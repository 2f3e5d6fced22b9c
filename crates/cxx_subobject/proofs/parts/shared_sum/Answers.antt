use Rattle.std.proofs.Common.{arith}
use Rattle.cxx_subobject.proofs.CountLemmas.{shared_none, shared_more}
use Rattle.cxx_subobject.proofs.parts.shared_sum.Goals as goal

pub loop-number-init : goal.loop-number-init
loop-number-init c = record {
  within = c.requires.start;
  sum = λ f n capped start. shared_none c.args.h.now c.args.c f n c.args.limit c.args.start start;
}

pub loop-number-preserved : goal.loop-number-preserved
loop-number-preserved c = record {
  within = let e = c.capped-sum.ensures in omega arith;
  sum = λ f n capped start. shared_more c.args.h.now c.args.c c.loop-number.number f c.args.values.now n c.args.limit c.loop-number.sum c.shared_value.result c.capped-sum.result capped
      (let lt = c.loop-number-test.true in let known = c.requires.known in omega arith) c.loop-number.invariant.within (c.loop-number.invariant.sum f n capped start) c.shared_value.ensures.value c.capped-sum.ensures;
}
