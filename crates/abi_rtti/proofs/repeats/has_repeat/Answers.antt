use Rattle.std.proofs.Common.{◌<◌, true, false, length, get_or, take, sym, ◌∙◌, ap, arith, length-set}
use Rattle.std.proofs.lemmas.List.{take_more, get_or_default}
use Rattle.cxx_hierarchy.specs.declared.records.ClassId.{ClassId}
use Rattle.abi_rtti.specs.Repeats.{has_repeat}
use Rattle.abi_rtti.proofs.RepeatLemmas.{repeat_at, no_repeat_more, one_more_mark}
use Rattle.abi_rtti.proofs.repeats.has_repeat.Goals as goal

abbrev none : ClassId
none = record { 0 = 0 }

pub returns-then-index : goal.returns-then-index
returns-then-index c =
    let lt : c.loop-c.c-index < length c.args.list.now = c.loop-c-test.true in
    let within : (get_or c.args.list.now c.loop-c.c-index none).0 < length c.loop-c.marks.items = let a = c.requires c.loop-c.c-index none lt in let b = c.loop-c.invariant.0 in omega arith in
    let marked = sym (c.loop-c.invariant.2 (get_or c.args.list.now c.loop-c.c-index none).0) ∙ get_or_default c.loop-c.marks.items (get_or c.args.list.now c.loop-c.c-index none).0 false c.index.result.now within ∙ sym c.index.ensures ∙ c.if-index.true in
    sym (repeat_at c.args.list.now none c.loop-c.c-index lt marked)

pub loop-c-preserved : goal.loop-c-preserved
loop-c-preserved c =
    let lt : c.loop-c.c-index < length c.args.list.now = c.loop-c-test.true in
    let within : (get_or c.args.list.now c.loop-c.c-index none).0 < length c.loop-c.marks.items = let a = c.requires c.loop-c.c-index none lt in let b = c.loop-c.invariant.0 in omega arith in
    let unmarked = sym (c.loop-c.invariant.2 (get_or c.args.list.now c.loop-c.c-index none).0) ∙ get_or_default c.loop-c.marks.items (get_or c.args.list.now c.loop-c.c-index none).0 false c.index.result.now within ∙ sym c.index.ensures ∙ c.if-index.false in
    let more = no_repeat_more (take c.loop-c.c-index c.args.list.now) (get_or c.args.list.now c.loop-c.c-index none) c.loop-c.invariant.1 unmarked in (
      length-set c.loop-c.marks.items (get_or c.args.list.now c.loop-c.c-index none).0 true ∙ c.loop-c.invariant.0,
      ap has_repeat (take_more c.args.list.now c.loop-c.c-index none lt) ∙ more,
      one_more_mark c.args.list.now none c.loop-c.c-index c.loop-c.marks.items lt within c.loop-c.invariant.2,
    )
