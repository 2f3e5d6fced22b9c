use Rattle.std.proofs.Common.{◌<◌, sym, subst, get_or, length, false, rules, List}
use Rattle.std.specs.Prelude.{Contains}
use Rattle.foundation.proofs.Places.{any_default}
use Rattle.foundation.proofs.Each.{none_before, one_more, all_of}
use Rattle.cxx_hierarchy.specs.declared.records.ClassId.{ClassId}
use Rattle.cxx_hierarchy.specs.declared.records.Base.{Base}
use Rattle.path_numbers.proofs.Rows.{bases_are}
use Rattle.path_tables.proofs.Paths.{IsOther, own_found, own_nowhere}
use Rattle.path_tables.proofs.ways.base_at.Goals as goal

abbrev no_base : Base ClassId
no_base = record { class = record { 0 = 0 }; is_virtual = false; is_public = false; at = 0 }

pub loop-i-init : goal.loop-i-init
loop-i-init c = none_before (IsOther c.args.b) c.as_slice-bases.result.now

pub returns-then-is_own_base : goal.returns-then-is_own_base
returns-then-is_own_base c =
    let e = bases_are c.args.h.now c.args.c c.class.result.now c.as_slice-bases.result.now c.class.ensures c.as_slice-bases.ensures in
    let lt = subst (λ (bs : List (Base ClassId)). c.loop-i.i < length bs) e c.loop-i-test.true in
    let found = own_found c.args.h.now c.keeps.ensures c.args.c c.args.b c.as_slice-bases.result.now c.loop-i.i (get_or c.as_slice-bases.result.now c.loop-i.i no_base) c.base_offset.result e c.loop-i-test.true
    (any_default c.as_slice-bases.result.now c.loop-i.i no_base (get_or c.as_slice-bases.result.now c.loop-i.i no_base) c.loop-i-test.true) (sym c.if-is_own_base.ensures) (c.base_offset.ensures c.args.h.now c.requires lt) in
    (found.0, found.1, search rules)

pub loop-i-preserved : goal.loop-i-preserved
loop-i-preserved c = one_more (IsOther c.args.b) c.as_slice-bases.result.now c.loop-i.i (get_or c.as_slice-bases.result.now c.loop-i.i no_base) c.loop-i-test.true
    (any_default c.as_slice-bases.result.now c.loop-i.i no_base (get_or c.as_slice-bases.result.now c.loop-i.i no_base) c.loop-i-test.true) c.loop-i.invariant (sym c.if-is_own_base.ensures)

pub returns : goal.returns
returns c =
    let e = bases_are c.args.h.now c.args.c c.class.result.now c.as_slice-bases.result.now c.class.ensures c.as_slice-bases.ensures in
    own_nowhere c.args.h.now c.args.c c.args.b (λ base listed. all_of (IsOther c.args.b) c.as_slice-bases.result.now c.loop-i.i c.loop-i-test.false c.loop-i.invariant base (subst (λ (bs : List (Base ClassId)). Contains bs base) (sym e) listed))
