use Rattle.cxx_search.specs.Casts.{IsTargetOver}
use Rattle.path_tables.proofs.Targets.{told_true, told_false, part_valid, at_one, down_not}
use Rattle.path_tables.proofs.casts.down_place.Goals as goal

pub is_public_base-requires-clause-outer : goal.is_public_base-requires-clause-outer
is_public_base-requires-clause-outer c =
    let one = c.in_ok-i.ensures in
    part_valid c.args.cast.now.h.now c.args.cast.now.c c.args.cast.now.parts.now c.in_ok-i.i c.index-parts-i.result c.requires.all (at_one (IsTargetOver c.args.cast.now.h.now c.args.cast.now.target c.args.cast.now.view.now c.args.cast.now.source.now) c.args.cast.now.parts.now c.in_ok-i.i c.index-parts-i.result c.index-parts-i.is one).0

pub returns-then-is_public_base : goal.returns-then-is_public_base
returns-then-is_public_base c =
    let one = at_one (IsTargetOver c.args.cast.now.h.now c.args.cast.now.target c.args.cast.now.view.now c.args.cast.now.source.now) c.args.cast.now.parts.now c.in_ok-i.i c.index-parts-i.result c.index-parts-i.is c.in_ok-i.ensures in
    (c.index-parts-i.result, one.0, record { over = one.1; source = told_true c.is_public_base.result c.is_public_base.ensures c.if-is_public_base.true })

pub returns-else-is_public_base : goal.returns-else-is_public_base
returns-else-is_public_base c =
    let one = at_one (IsTargetOver c.args.cast.now.h.now c.args.cast.now.target c.args.cast.now.view.now c.args.cast.now.source.now) c.args.cast.now.parts.now c.in_ok-i.i c.index-parts-i.result c.index-parts-i.is c.in_ok-i.ensures in
    down_not c.args.cast.now.h.now c.args.cast.now.target c.args.cast.now.view.now c.args.cast.now.source.now c.index-parts-i.result one.1 (told_false c.is_public_base.result c.is_public_base.ensures c.if-is_public_base.false)
