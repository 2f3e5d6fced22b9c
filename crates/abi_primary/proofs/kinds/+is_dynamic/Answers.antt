use Rattle.std.proofs.Common.{sym, ◌∙◌, arith}
use Rattle.foundation.proofs.Truth.{never, always, not_both}
use Rattle.abi_primary.specs.Kinds.{declares}
use Rattle.abi_primary.proofs.Nth.{nth, nth_in, one_more, all_nth}
use Rattle.abi_primary.proofs.KindLemmas.{IsStill, never_dynamic, by_virtual, by_dynamic, listed_base}
use Rattle.abi_primary.proofs.kinds.+is_dynamic.Goals.{then-base-via-then-base, then-base-via-else-base+then-is_dynamic}
use Rattle.abi_primary.proofs.kinds.+is_dynamic.Goals as goal

pub returns-then-has_virtual_function : goal.returns-then-has_virtual_function
returns-then-has_virtual_function t c = always (declares c.args.c c.class-class.result.now c.class-class.ensures (sym c.has_virtual_function.ensures ∙ c.if-has_virtual_function.true))

pub is_dynamic-requires : goal.is_dynamic-requires
is_dynamic-requires t c =
    let xs = c.as_slice-base-items.result.now in
    let i = c.loop-base.base-index in
    let before = c.keeps.ensures.bases c.args.c (nth xs i) (listed_base c.args.h.now c.args.c c.class-class.result.now xs i c.class-class.ensures c.as_slice-base-items.ensures c.loop-base-test.true) in
    (omega arith, omega arith)

pub returns-then-base : goal.returns-then-base
returns-then-base t c =
    let xs = c.as_slice-base-items.result.now in
    let i = c.loop-base.base-index in
    let class = c.class-class.result.now in
    let has = nth_in xs class.bases i c.as_slice-base-items.ensures c.loop-base-test.true in
    always (elim c.then-base.branch [ then-base-via-then-base w ↦ by_virtual c.args.h.now c.args.c class (nth xs i) c.class-class.ensures has w.if-base.true | then-base-via-else-base+then-is_dynamic w ↦ by_dynamic c.args.h.now c.args.c class (nth xs i) c.class-class.ensures has (w.is_dynamic.ensures.0 w.if-is_dynamic.true) ])

pub loop-base-preserved : goal.loop-base-preserved
loop-base-preserved t c = one_more (IsStill c.args.h.now) c.as_slice-base-items.result.now c.loop-base.base-index c.loop-base.invariant (record { way = c.if-base.false; still = λ x. not_both (c.is_dynamic.ensures.1 x) c.if-is_dynamic.false })

pub returns : goal.returns
returns t c =
    let class = c.class-class.result.now in
    never (never_dynamic c.args.h.now c.args.c class c.class-class.ensures (sym c.has_virtual_function.ensures ∙ c.if-has_virtual_function.false)
    (all_nth (IsStill c.args.h.now) c.as_slice-base-items.result.now class.bases c.loop-base.base-index c.as_slice-base-items.ensures c.loop-base-test.false c.loop-base.invariant))
