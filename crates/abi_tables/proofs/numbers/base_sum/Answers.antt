use Rattle.std.proofs.Common.{ap, ◌∙◌, false}
use Rattle.std.specs.Prelude.{List, if◌then◌else◌}
use Rattle.std.proofs.lemmas.List.{take_all}
use Rattle.cxx_hierarchy.specs.declared.records.ClassId.{ClassId}
use Rattle.cxx_hierarchy.specs.declared.records.Base.{Base}
use Rattle.cxx_subobject.specs.invariants.Counts.{own_bases}
use Rattle.abi_tables.specs.invariants.Weights.{cut, number_by_class}
use Rattle.abi_tables.proofs.NumberLemmas.{cut_more}
use Rattle.abi_tables.proofs.numbers.base_sum.Goals as goal

abbrev no_base : Base ClassId
no_base = record { class = record { 0 = 0 }; is_virtual = false; is_public = false; at = 0 }

pub loop-base-preserved : goal.loop-base-preserved
loop-base-preserved c = cut_more (λ (base : Base ClassId). if base.is_virtual then 0 else number_by_class c.args.numbers.now base.class) c.args.bases.now c.loop-base.base-index no_base c.loop-base.sum c.own_value.result c.capped-sum.result c.loop-base-test.true c.loop-base.invariant (ap cut c.own_value.ensures) c.capped-sum.ensures

pub returns : goal.returns
returns c = c.loop-base.invariant ∙ ap (λ (bs : List (Base ClassId)). cut (own_bases (number_by_class c.args.numbers.now) bs)) (take_all c.loop-base.base-index c.args.bases.now c.loop-base-test.false)
