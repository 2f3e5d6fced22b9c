use Rattle.std.proofs.Common.{◌<◌, List, length, arith, subst, sym, ◌∙◌}
use Rattle.cxx_hierarchy.specs.declared.records.ClassId.{ClassId}
use Rattle.cxx_hierarchy.specs.declared.records.Base.{Base}
use Rattle.abi_primary.specs.PrimaryBase.{IsFirstDynamic}
use Rattle.abi_primary.proofs.Nth.{nth}
use Rattle.abi_primary.proofs.KindLemmas.{bases_are}
use Rattle.abi_primary.proofs.FlagLemmas.{base_before}
use Rattle.abi_primary.proofs.PrimaryLemmas.{first_at}
use Rattle.abi_primary.proofs.primaries.first_dynamic.Goals as goal

pub returns-then-flag_of : goal.returns-then-flag_of
returns-then-flag_of c =
    let h = c.args.h.now in
    let xs = c.as_slice-base-items.result.now in
    let base = nth xs c.loop-base.base-index in
    let before = base_before h c.keeps.ensures c.args.c c.class-class.result.now xs c.loop-base.base-index c.class-class.ensures c.as_slice-base-items.ensures c.loop-base-test.true in
    let known : base.class.0 < length h = let below = c.requires.known in omega arith in
    subst (λ (list : List (Base ClassId)). IsFirstDynamic h list base.class) (c.as_slice-base-items.ensures ∙ sym (bases_are h c.args.c c.class-class.result.now c.class-class.ensures))
    (first_at h xs c.loop-base.base-index c.loop-base-test.true c.loop-base.invariant (record { way = c.if-not-base.true; dynamic = (c.requires.dynamic.each base.class known).0 (sym c.flag_of.ensures ∙ c.if-flag_of.true) }))
