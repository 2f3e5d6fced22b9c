use Rattle.cxx_search.specs.Casts.{IsTarget}
use Rattle.path_tables.proofs.Targets.{told_true, told_false, part_valid, at_one, across_not}
use Rattle.path_tables.proofs.casts.across_place.Goals as goal

pub is_public_base-requires-2-clause-inner : goal.is_public_base-requires-2-clause-inner
is_public_base-requires-2-clause-inner c =
    part_valid c.args.cast.now.h.now c.args.cast.now.c c.args.cast.now.parts.now c.in_ok-i.i c.index-parts-i.result c.requires.all (at_one (IsTarget c.args.cast.now.h.now c.args.cast.now.target c.args.cast.now.view.now) c.args.cast.now.parts.now c.in_ok-i.i c.index-parts-i.result c.index-parts-i.is c.in_ok-i.ensures).0

pub returns-then-is_public_base : goal.returns-then-is_public_base
returns-then-is_public_base c =
    let one = at_one (IsTarget c.args.cast.now.h.now c.args.cast.now.target c.args.cast.now.view.now) c.args.cast.now.parts.now c.in_ok-i.i c.index-parts-i.result c.index-parts-i.is c.in_ok-i.ensures in (
      c.index-parts-i.result,
      one.0,
      record {
        source = told_true c.is_public_base.result c.is_public_base.ensures c.if-not-is_public_base.false;
        target_is = one.1;
        reached = told_true c.is_public_base-2.result c.is_public_base-2.ensures c.if-is_public_base.true;
      },
    )

pub returns-else-is_public_base : goal.returns-else-is_public_base
returns-else-is_public_base c =
    let one = at_one (IsTarget c.args.cast.now.h.now c.args.cast.now.target c.args.cast.now.view.now) c.args.cast.now.parts.now c.in_ok-i.i c.index-parts-i.result c.index-parts-i.is c.in_ok-i.ensures in
    across_not c.args.cast.now.h.now c.args.cast.now.target c.args.cast.now.view.now c.args.cast.now.source.now c.index-parts-i.result one.1 (told_false c.is_public_base-2.result c.is_public_base-2.ensures c.if-is_public_base.false)
