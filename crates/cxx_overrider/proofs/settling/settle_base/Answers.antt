use Rattle.std.proofs.Common.{length, ap, arith}
use Rattle.std.proofs.lemmas.Bool.{MatchBool-at_true}
use Rattle.cxx_overrider.proofs.WithinLemmas.{base_listed, listed_number}
use Rattle.cxx_overrider.proofs.Made.{between_here, made_to_start, made_to_next, made_to_end, made_none, made_end, keeps_all, keeps_through}
use Rattle.cxx_overrider.proofs.SettlingLemmas.{refuted}
use Rattle.cxx_overrider.proofs.settling.settle_base.Goals as goal

pub returns-then-not-has_virtual_base-clause-one : goal.returns-then-not-has_virtual_base-clause-one
returns-then-not-has_virtual_base-clause-one c =
    made_none c.args.site.now.h.now c.args.site.now.tables.now.numbering.rows.items c.args.entries.now c.args.site.now.c c.args.v
    (refuted c.has_virtual_base.result _ c.has_virtual_base.ensures c.if-not-has_virtual_base.true) c.requires.made

pub returns-then-not-has_virtual_base-clause-kept : goal.returns-then-not-has_virtual_base-clause-kept
returns-then-not-has_virtual_base-clause-kept c = keeps_all c.args.site.now.c c.args.entries.now

pub numbers_within-n-items-requires : goal.numbers_within-n-items-requires
numbers_within-n-items-requires c = base_listed c.args.site.now.h.now c.keeps.ensures c.args.site.now.tables.now c.requires.site.tables c.args.site.now.c c.args.v c.requires.site.known (c.has_virtual_base.ensures.0 c.if-not-has_virtual_base.false)

pub loop-n-init : goal.loop-n-init
loop-n-init c =
    let h = c.args.site.now.h.now in
    let t = c.args.site.now.tables.now in
    record {
      items = c.numbers_within-n-items.ensures;
      kept = keeps_all c.args.site.now.c c.args.entries.now;
      made = made_to_start h t.numbering.rows.items t.numbering.count t.within.items c.args.v c.requires.site.tables.within (base_listed h c.keeps.ensures t c.requires.site.tables c.args.site.now.c c.args.v c.requires.site.known (c.has_virtual_base.ensures.0 c.if-not-has_virtual_base.false)) c.args.entries.now c.args.site.now.c.0 c.requires.made;
    }

pub settle_number-requires : goal.settle_number-requires
settle_number-requires c =
    let h = c.args.site.now.h.now in
    let t = c.args.site.now.tables.now in
    let base = base_listed h c.keeps.ensures t c.requires.site.tables c.args.site.now.c c.args.v c.requires.site.known (c.has_virtual_base.ensures.0 c.if-not-has_virtual_base.false) in
    let listed = listed_number h c.keeps.ensures t c.requires.site.tables c.args.site.now.c c.args.v c.requires.site.known (c.has_virtual_base.ensures.0 c.if-not-has_virtual_base.false) _ _ c.loop-n.invariant.items c.loop-n-test.true in
    record {
      site = c.requires.site;
      at = record { base = c.has_virtual_base.ensures.0 c.if-not-has_virtual_base.false; number = listed.few; within = listed.valid };
      made = c.loop-n.invariant.made.made _ (between_here h t.numbering.rows.items t.numbering.count t.within.items c.args.v c.requires.site.tables.within base c.loop-n.n-index _ listed.at);
    }

pub loop-n-preserved : goal.loop-n-preserved
loop-n-preserved c =
    let h = c.args.site.now.h.now in
    let t = c.args.site.now.tables.now in
    let base = base_listed h c.keeps.ensures t c.requires.site.tables c.args.site.now.c c.args.v c.requires.site.known (c.has_virtual_base.ensures.0 c.if-not-has_virtual_base.false) in
    record {
      items = c.loop-n.invariant.items;
      kept = keeps_through c.args.site.now.c c.args.entries.now c.loop-n.entries c.settle_number.new.entries c.loop-n.invariant.kept c.in_ok-settle_number.ensures.kept;
      made = made_to_next h t.numbering.rows.items t.numbering.count t.within.items c.args.v c.requires.site.tables.within base c.settle_number.new.entries c.args.site.now.c.0 c.loop-n.n-index _
          (listed_number h c.keeps.ensures t c.requires.site.tables c.args.site.now.c c.args.v c.requires.site.known (c.has_virtual_base.ensures.0 c.if-not-has_virtual_base.false) _ _ c.loop-n.invariant.items c.loop-n-test.true).at
          (MatchBool-at_true _ _ c.if-not-branch.false c.in_ok-settle_number.ensures.one);
    }

pub returns-clause-one : goal.returns-clause-one
returns-clause-one c =
    let h = c.args.site.now.h.now in
    let t = c.args.site.now.tables.now in
    let base = base_listed h c.keeps.ensures t c.requires.site.tables c.args.site.now.c c.args.v c.requires.site.known (c.has_virtual_base.ensures.0 c.if-not-has_virtual_base.false) in
    let end = c.loop-n-test.false in
    let size = ap length c.loop-n.invariant.items in
    made_end h t.numbering.rows.items c.loop-n.entries c.args.site.now.c.0 c.args.v.0 t.numbering.count c.requires.site.tables.numbering
    (made_to_end h t.numbering.rows.items t.numbering.count t.within.items c.args.v c.requires.site.tables.within base c.loop-n.entries c.args.site.now.c.0 c.loop-n.n-index (omega arith) c.loop-n.invariant.made)
