use Rattle.std.proofs.Common.{sym, ◌∙◌, arith}
use Rattle.foundation.proofs.Truth.{not_both}
use Rattle.abi_primary.proofs.Nth.{nth, nth_in, all_nth}
use Rattle.abi_primary.proofs.KindLemmas.{IsEmptyBase, not_empty, empty_by, some_member, listed_base, none_of}
use Rattle.abi_primary.proofs.kinds.+is_empty.Goals.{then-base-via-then-base, then-base-via-else-base+then-not-is_empty}
use Rattle.abi_primary.proofs.kinds.+is_empty.Goals as goal

pub returns-then-len-gt0 : goal.returns-then-len-gt0
returns-then-len-gt0 t c =
    let class = c.class-class.result.now in
    let len = c.len.ensures in
    let some = c.if-len-gt0.true in
    sym (not_empty c.args.h.now c.args.c class c.keeps.ensures c.class-class.ensures (λ parts. some_member class.members (omega arith) parts.no_member))

pub returns-then-has_virtual_function : goal.returns-then-has_virtual_function
returns-then-has_virtual_function t c = sym (not_empty c.args.h.now c.args.c c.class-class.result.now c.keeps.ensures c.class-class.ensures (λ parts. not_both (sym c.has_virtual_function.ensures ∙ c.if-has_virtual_function.true) parts.no_function))

pub is_empty-requires : goal.is_empty-requires
is_empty-requires t c =
    let xs = c.as_slice-base-items.result.now in
    let i = c.loop-base.base-index in
    let before = c.keeps.ensures.bases c.args.c (nth xs i) (listed_base c.args.h.now c.args.c c.class-class.result.now xs i c.class-class.ensures c.as_slice-base-items.ensures c.loop-base-test.true) in
    (omega arith, omega arith)

pub returns-then-base : goal.returns-then-base
returns-then-base t c =
    let xs = c.as_slice-base-items.result.now in
    let i = c.loop-base.base-index in
    let class = c.class-class.result.now in
    let has = nth_in xs class.bases i c.as_slice-base-items.ensures c.loop-base-test.true in
    sym (not_empty c.args.h.now c.args.c class c.keeps.ensures c.class-class.ensures (λ parts.
    elim c.then-base.branch [ then-base-via-then-base w ↦ not_both w.if-base.true (parts.bases (nth xs i) has).way | then-base-via-else-base+then-not-is_empty w ↦ not_both (w.is_empty.ensures ∙ (parts.bases (nth xs i) has).empty_is) w.if-not-is_empty.true ]))

pub returns : goal.returns
returns t c =
    let class = c.class-class.result.now in
    let len = c.len.ensures in
    let few = c.if-len-gt0.false in
    sym (empty_by c.args.h.now c.args.c class c.keeps.ensures c.class-class.ensures (record {
      no_member = none_of class.members (omega arith);
      no_function = sym c.has_virtual_function.ensures ∙ c.if-has_virtual_function.false;
      bases = all_nth (IsEmptyBase c.args.h.now) c.as_slice-base-items.result.now class.bases c.loop-base.base-index c.as_slice-base-items.ensures c.loop-base-test.false c.loop-base.invariant;
    }))
