use Rattle.std.proofs.Common.{ap, ◌∙◌}
use Rattle.std.specs.Prelude.{List}
use Rattle.std.specs.List.{sum_by}
use Rattle.std.proofs.lemmas.List.{take_all}
use Rattle.cxx_hierarchy.specs.declared.records.ClassId.{ClassId}
use Rattle.abi_tables.specs.invariants.Weights.{cut, number_by_class}
use Rattle.abi_tables.proofs.NumberLemmas.{cut_more}
use Rattle.abi_tables.proofs.numbers.class_sum.Goals as goal

pub loop-c-preserved : goal.loop-c-preserved
loop-c-preserved c = cut_more (number_by_class c.args.numbers.now) c.args.classes.now c.loop-c.c-index (record { 0 = 0 }) c.loop-c.sum c.number_of.result c.capped-sum.result c.loop-c-test.true c.loop-c.invariant (ap cut c.number_of.ensures) c.capped-sum.ensures

pub returns : goal.returns
returns c = c.loop-c.invariant ∙ ap (λ (cs : List ClassId). cut (sum_by (number_by_class c.args.numbers.now) cs)) (take_all c.loop-c.c-index c.args.classes.now c.loop-c-test.false)
