use Rattle.std.proofs.Common.{arith, get_or, false, refl}
use Rattle.std.proofs.lemmas.Option.{slice_get-get_or}
use Rattle.cxx_hierarchy.specs.declared.records.ClassId.{ClassId}
use Rattle.cxx_hierarchy.specs.declared.records.Base.{Base}
use Rattle.path_numbers.specs.Sizes.{sizes_of, base_size}
use Rattle.path_numbers.proofs.Lining.{line_none, line_more, line_all, line_room}
use Rattle.path_numbers.proofs.numbers.base_line.Goals as goal

abbrev no_base : Base ClassId
no_base = record { class = record { 0 = 0 }; is_virtual = false; is_public = false; at = 0 }

pub loop-base-init : goal.loop-base-init
loop-base-init c = line_none (base_size (sizes_of c.args.h.now)) 1 c.args.bases.now _ c.new.ensures.items refl

pub push-requires : goal.push-requires
push-requires c =
    let at = slice_get-get_or c.args.bases.now c.loop-base.base-index no_base c.loop-base-test.true in
    let r = line_room (base_size (sizes_of c.args.h.now)) 1 c.args.bases.now c.loop-base.base-index c.loop-base.line (get_or c.args.bases.now c.loop-base.base-index no_base) c.base_width.result c.loop-base.invariant at c.base_width.ensures c.requires.room in omega arith

pub loop-base-preserved : goal.loop-base-preserved
loop-base-preserved c =
    let at = slice_get-get_or c.args.bases.now c.loop-base.base-index no_base c.loop-base-test.true in
    line_more (base_size (sizes_of c.args.h.now)) 1 c.args.bases.now c.loop-base.base-index c.loop-base.line c.push.new.self (get_or c.args.bases.now c.loop-base.base-index no_base) c.base_width.result c.loop-base.invariant at c.base_width.ensures c.in_ok-push.ensures.offsets c.in_ok-push.ensures.end

pub returns : goal.returns
returns c = line_all (base_size (sizes_of c.args.h.now)) 1 c.args.bases.now c.loop-base.base-index c.loop-base.line c.loop-base.invariant c.loop-base-test.false
