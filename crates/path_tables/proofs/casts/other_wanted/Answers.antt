use Rattle.path_tables.specs.invariants.Targets.{IsWanted, IsOther}
use Rattle.path_tables.proofs.Targets.{told_true, told_false, part_valid, here_at, none_more, none_at_all}
use Rattle.path_tables.proofs.casts.other_wanted.Goals as goal

pub is_other-requires-clause-t : goal.is_other-requires-clause-t
is_other-requires-clause-t c = part_valid c.args.cast.now.h.now c.args.cast.now.c c.args.cast.now.parts.now c.loop-i.i c.index-parts-i.result c.requires.all (here_at c.args.cast.now.parts.now c.loop-i.i c.index-parts-i.result c.loop-i-test.true c.index-parts-i.is)

pub returns-then-is_other : goal.returns-then-is_other
returns-then-is_other c = (c.index-parts-i.result, here_at c.args.cast.now.parts.now c.loop-i.i c.index-parts-i.result c.loop-i-test.true c.index-parts-i.is, told_true c.is_other.result c.is_other.ensures c.if-is_other.true)

pub loop-i-preserved : goal.loop-i-preserved
loop-i-preserved c = none_more (IsOther (IsWanted c.args.cast.now.h.now c.args.cast.now.target c.args.cast.now.view.now c.args.cast.now.source.now c.args.over) c.args.skip) c.args.cast.now.parts.now c.loop-i.i c.index-parts-i.result c.loop-i-test.true c.index-parts-i.is
    (told_false c.is_other.result c.is_other.ensures c.if-is_other.false) c.loop-i.invariant

pub returns : goal.returns
returns c = none_at_all (IsOther (IsWanted c.args.cast.now.h.now c.args.cast.now.target c.args.cast.now.view.now c.args.cast.now.source.now c.args.over) c.args.skip) c.args.cast.now.parts.now c.loop-i.i c.loop-i-test.false c.loop-i.invariant
