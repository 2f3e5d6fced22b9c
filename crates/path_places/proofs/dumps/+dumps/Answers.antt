use Rattle.std.proofs.Common.{◌∙◌, List, refl, subst, sym, arith}
use Rattle.std.specs.Prelude.{Contains}
use Rattle.std.proofs.lemmas.Result.{on_ok_weaker}
use Rattle.foundation.proofs.Places.{contains_at}
use Rattle.cxx_hierarchy.specs.Classes.{members_of}
use Rattle.cxx_subobject.specs.declared.Subobject.{Subobject}
use Rattle.path_places.proofs.Walked.{member_below, base_walked}
use Rattle.path_places.specs.invariants.Dumps.{dumped_object}
use Rattle.path_places.proofs.Dumping.{values_dumped, objects_dumped, elements_next, members_next, bases_step}
use Rattle.path_places.proofs.dumps.+dumps.Goals as goal

pub dump_elements-loop-i-preserved : goal.dump_elements-loop-i-preserved
dump_elements-loop-i-preserved t c =
    let site = c.args.site.now in
    let h = site.world.now.h.now in
    elements_next (dumped_object h site.heap.now site.object site.class) c.args.place.now.hops.now.items c.args.place.now.base.now c.args.m c.args.d c.args.k c.args.count c.loop-i.i c.in_full-size.result c.loop-i-test.true c.in_full-size.ensures
    c.put_hops.new.list.items c.in_ok-put_hops.ensures c.args.out.now.items c.loop-i.out.items c.dump_whole.new.out.items c.loop-i.invariant c.put_hops.new.list.items refl c.in_ok-dump_whole.ensures

pub dump_member-returns-in-Value : goal.dump_member-returns-in-Value
dump_member-returns-in-Value t c =
    let site = c.args.site.now in
    on_ok_weaker c.dump_values.result (values_dumped (dumped_object site.world.now.h.now site.heap.now site.object site.class) c.args.place.now.hops.now.items c.args.place.now.base.now c.args.c c.args.m c.args.member.now c.in-Value.field-0 c.in-Value.is c.args.k c.elements.result c.elements.ensures
    c.args.out.now.items c.dump_values.new.out.items) c.dump_values.ensures

pub dump_member-returns-in-Object : goal.dump_member-returns-in-Object
dump_member-returns-in-Object t c =
    let site = c.args.site.now in
    on_ok_weaker c.dump_elements.result (objects_dumped (dumped_object site.world.now.h.now site.heap.now site.object site.class) c.args.place.now.hops.now.items c.args.place.now.base.now c.args.c c.args.m c.in-Object.d c.args.member.now c.in-Object.is c.args.k c.elements-in-Object.result c.elements-in-Object.ensures
    c.args.out.now.items c.dump_elements.new.out.items) c.dump_elements.ensures

pub dump_own-member_of-member-requires-clause-there : goal.dump_own-member_of-member-requires-clause-there
dump_own-member_of-member-requires-clause-there t c = member_below c.args.site.now.world.now.h.now c.args.c c.class.result.now c.class.ensures c.len-count.result c.len-count.ensures c.loop-m.m c.loop-m-test.true

pub dump_own-dump_member-requires : goal.dump_own-dump_member-requires
dump_own-dump_member-requires t c =
    let h = c.args.site.now.world.now.h.now in
    let x = c.member_of-member.result.now in
    let d = c.decreases in
    (omega arith, (c.requires.world, (c.requires.known, λ d ty. c.keeps.ensures.objects c.args.c d x (contains_at (members_of h c.args.c) c.loop-m.m x c.member_of-member.ensures) ty)))

pub dump_own-loop-m-preserved : goal.dump_own-loop-m-preserved
dump_own-loop-m-preserved t c =
    let site = c.args.site.now in
    let h = site.world.now.h.now in
    let below = member_below h c.args.c c.class.result.now c.class.ensures c.len-count.result c.len-count.ensures c.loop-m.m c.loop-m-test.true in
    members_next (dumped_object h site.heap.now site.object site.class) c.args.place.now.hops.now.items c.args.place.now.base.now c.args.c c.args.k c.loop-m.m c.member_of-member.result.now c.member_offset.result c.member_of-member.ensures (c.member_offset.ensures below)
    c.args.out.now.items c.loop-m.out.items c.dump_member.new.out.items c.loop-m.invariant c.in_ok-dump_member.ensures

pub dump_whole-number_in-requires-clause-subobject : goal.dump_whole-number_in-requires-clause-subobject
dump_whole-number_in-requires-clause-subobject t c =
    let base = c.base-item.result in
    c.in_ok-put_subobjects.ensures.lists.valid base (subst (λ (xs : List Subobject). Contains xs base) c.as_slice-base-items.ensures (c.loop-base.base-index, c.loop-base-test.true, sym c.base-item.is))

pub dump_whole-dump_own-requires : goal.dump_whole-dump_own-requires
dump_whole-dump_own-requires t c =
    let h = c.args.site.now.world.now.h.now in
    let is = c.as_slice-base-items.ensures ∙ c.in_ok-put_subobjects.ensures.preorder in
    let low = base_walked h c.requires.world.hierarchy c.args.c c.as_slice-base-items.result.now is c.loop-base.base-index c.base-item.result c.loop-base-test.true c.base-item.is c.class_or_first-d.result c.class_or_first-d.ensures in
    let d = c.decreases in
    let known = c.requires.known in
    (omega arith, (c.requires.world, omega arith))

pub dump_whole-loop-base-preserved : goal.dump_whole-loop-base-preserved
dump_whole-loop-base-preserved t c =
    let site = c.args.site.now in
    let h = site.world.now.h.now in
    let is = c.as_slice-base-items.ensures ∙ c.in_ok-put_subobjects.ensures.preorder in
    bases_step (dumped_object h site.heap.now site.object site.class) c.requires.world.hierarchy c.args.hops.now.items c.args.c c.args.k c.as_slice-base-items.result.now c.loop-base.base-index c.base-item.result is c.loop-base-test.true c.base-item.is
    c.class_or_first-d.result c.class_or_first-d.ensures c.number_in.result c.number_in.ensures c.args.out.now.items c.loop-base.out.items c.dump_own.new.out.items c.loop-base.invariant c.in_ok-dump_own.ensures
