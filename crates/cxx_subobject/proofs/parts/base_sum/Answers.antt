use Rattle.std.proofs.Common.{◌+◌, ◌∙◌, ap, arith, min, List, false}
use Rattle.std.proofs.lemmas.List.{take_all}
use Rattle.cxx_hierarchy.specs.declared.records.ClassId.{ClassId}
use Rattle.cxx_hierarchy.specs.declared.records.Base.{Base}
use Rattle.cxx_subobject.specs.invariants.Counts.{own_bases}
use Rattle.cxx_subobject.proofs.CountLemmas.{base_more}
use Rattle.cxx_subobject.proofs.parts.base_sum.Goals as goal

abbrev no_base : Base ClassId
no_base = record { class = record { 0 = 0 }; is_virtual = false; is_public = false; at = 0 }

pub loop-base-preserved : goal.loop-base-preserved
loop-base-preserved c = record {
  within = let e = c.capped-sum.ensures in omega arith;
  sum = λ f n capped start. base_more c.args.limit f c.args.values.now c.args.bases.now c.loop-base.base-index no_base n c.loop-base.sum c.own_value.result c.capped-sum.result capped c.loop-base-test.true
      (c.requires.known c.loop-base.base-index no_base c.loop-base-test.true) (c.loop-base.invariant.sum f n capped start) c.own_value.ensures.value c.capped-sum.ensures;
}

pub returns-clause-sum : goal.returns-clause-sum
returns-clause-sum c = λ f n capped start.
    c.loop-base.invariant.sum f n capped start
    ∙ ap (λ (bs : List (Base ClassId)). min (n + own_bases f bs) (c.args.limit + 1)) (take_all c.loop-base.base-index c.args.bases.now c.loop-base-test.false)
