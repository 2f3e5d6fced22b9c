use Rattle.std.proofs.Common.{ap, ◌∙◌, false}
use Rattle.std.proofs.lemmas.List.{take_all}
use Rattle.std.specs.List.{sum_by}
use Rattle.std.specs.Prelude.{List}
use Rattle.cxx_hierarchy.specs.declared.records.ClassId.{ClassId}
use Rattle.cxx_hierarchy.specs.declared.records.Base.{Base}
use Rattle.abi_sound.specs.Places.{places_of}
use Rattle.abi_tables.specs.invariants.Weights.{cut, number_by_class, side}
use Rattle.abi_tables.proofs.NumberLemmas.{cut_more}
use Rattle.abi_tables.proofs.numbers.side_sum.Goals as goal

abbrev no_base : Base ClassId
no_base = record { class = record { 0 = 0 }; is_virtual = false; is_public = false; at = 0 }

pub loop-base-preserved : goal.loop-base-preserved
loop-base-preserved g c =
    let l = places_of c.args.h.now (g.L.SoundLayout.rows c.args.layout.now) in
    cut_more (side l (number_by_class c.args.heads.now) c.args.k) c.args.bases.now c.loop-base.base-index no_base c.loop-base.sum c.side.result c.capped-sum.result c.loop-base-test.true c.loop-base.invariant (ap cut c.side.ensures) c.capped-sum.ensures

pub returns : goal.returns
returns g c =
    let l = places_of c.args.h.now (g.L.SoundLayout.rows c.args.layout.now) in
    c.loop-base.invariant ∙ ap (λ (bs : List (Base ClassId)). cut (sum_by (side l (number_by_class c.args.heads.now) c.args.k) bs)) (take_all c.loop-base.base-index c.args.bases.now c.loop-base-test.false)
