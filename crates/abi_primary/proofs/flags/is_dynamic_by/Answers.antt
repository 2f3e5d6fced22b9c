use Rattle.std.proofs.Common.{sym, ◌∙◌}
use Rattle.foundation.proofs.Truth.{never, always, not_both}
use Rattle.abi_primary.specs.Kinds.{declares}
use Rattle.abi_primary.proofs.Nth.{nth, nth_in, one_more, all_nth}
use Rattle.abi_primary.proofs.KindLemmas.{IsStill, never_dynamic, by_virtual, by_dynamic}
use Rattle.abi_primary.proofs.FlagLemmas.{base_before}
use Rattle.abi_primary.proofs.flags.is_dynamic_by.Goals.{then-base-via-then-base, then-base-via-else-base+then-flag_of}
use Rattle.abi_primary.proofs.flags.is_dynamic_by.Goals as goal

pub returns-then-has_virtual_function : goal.returns-then-has_virtual_function
returns-then-has_virtual_function c = always (declares c.args.c c.class-class.result.now c.class-class.ensures (sym c.has_virtual_function.ensures ∙ c.if-has_virtual_function.true))

pub returns-then-base : goal.returns-then-base
returns-then-base c =
    let h = c.args.h.now in
    let class = c.class-class.result.now in
    let xs = c.as_slice-base-items.result.now in
    let base = nth xs c.loop-base.base-index in
    let has = nth_in xs class.bases c.loop-base.base-index c.as_slice-base-items.ensures c.loop-base-test.true in
    let before = base_before h c.keeps.ensures c.args.c class xs c.loop-base.base-index c.class-class.ensures c.as_slice-base-items.ensures c.loop-base-test.true in
    always (elim c.then-base.branch [ then-base-via-then-base w ↦ by_virtual h c.args.c class base c.class-class.ensures has w.if-base.true | then-base-via-else-base+then-flag_of w ↦ by_dynamic h c.args.c class base c.class-class.ensures has ((c.requires.before.each base.class before).0 (sym w.flag_of.ensures ∙ w.if-flag_of.true)) ])

pub loop-base-preserved : goal.loop-base-preserved
loop-base-preserved c =
    let h = c.args.h.now in
    let xs = c.as_slice-base-items.result.now in
    let i = c.loop-base.base-index in
    let before = base_before h c.keeps.ensures c.args.c c.class-class.result.now xs i c.class-class.ensures c.as_slice-base-items.ensures c.loop-base-test.true in
    one_more (IsStill h) xs i c.loop-base.invariant (record { way = c.if-base.false; still = λ x. not_both (c.flag_of.ensures ∙ (c.requires.before.each (nth xs i).class before).1 x) c.if-flag_of.false })

pub returns : goal.returns
returns c =
    let class = c.class-class.result.now in
    never (never_dynamic c.args.h.now c.args.c class c.class-class.ensures (sym c.has_virtual_function.ensures ∙ c.if-has_virtual_function.false)
    (all_nth (IsStill c.args.h.now) c.as_slice-base-items.result.now class.bases c.loop-base.base-index c.as_slice-base-items.ensures c.loop-base-test.false c.loop-base.invariant))
