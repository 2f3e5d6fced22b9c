use Rattle.std.proofs.Common.{◌∙◌, arith}
use Rattle.std.proofs.lemmas.Result.{on_ok_weaker}
use Rattle.foundation.proofs.Places.{contains_at}
use Rattle.cxx_hierarchy.specs.Classes.{members_of}
use Rattle.path_places.proofs.Walked.{member_walked, base_walked}
use Rattle.path_places.proofs.Listing.{values_listed, objects_listed, elements_next, members_next, bases_step}
use Rattle.path_places.proofs.leaves.+leaves.Goals as goal

pub push_elements-loop-i-preserved : goal.push_elements-loop-i-preserved
push_elements-loop-i-preserved t c =
    let h = c.args.world.now.h.now in
    elements_next h c.requires.world.hierarchy c.args.class c.args.k c.args.count c.loop-i.i c.in_full-size.result c.loop-i-test.true (c.in_full-size.ensures h c.requires.world.are_numbers)
    c.args.leaves.now.items c.loop-i.leaves.items c.push_whole.new.leaves.items c.loop-i.invariant c.in_ok-push_whole.ensures

pub push_member-returns-in-Value : goal.push_member-returns-in-Value
push_member-returns-in-Value t c =
    let h = c.args.world.now.h.now in
    on_ok_weaker c.push_numbers.result (values_listed h c.requires.world.hierarchy c.args.c c.args.member.now c.in-Value.field-0 c.in-Value.is c.args.k c.elements.result c.elements.ensures c.args.leaves.now.items c.push_numbers.new.leaves.items) c.push_numbers.ensures

pub push_member-returns-in-Object : goal.push_member-returns-in-Object
push_member-returns-in-Object t c =
    let h = c.args.world.now.h.now in
    on_ok_weaker c.push_elements.result (objects_listed h c.args.c c.in-Object.d c.args.member.now c.in-Object.is c.args.k c.elements-in-Object.result c.elements-in-Object.ensures c.args.leaves.now.items c.push_elements.new.leaves.items) c.push_elements.ensures

pub push_own-push_member-requires : goal.push_own-push_member-requires
push_own-push_member-requires t c =
    let h = c.args.world.now.h.now in
    let x = c.index-members-m.result in
    let at = member_walked h c.args.c c.class.result.now c.as_slice-members.result.now c.class.ensures c.as_slice-members.ensures c.loop-m.m x c.loop-m-test.true c.index-members-m.is in
    let d = c.decreases in
    (omega arith, (c.requires.world, (c.requires.known, λ d ty. c.keeps.ensures.objects c.args.c d x (contains_at (members_of h c.args.c) c.loop-m.m x at.at) ty)))

pub push_own-loop-m-preserved : goal.push_own-loop-m-preserved
push_own-loop-m-preserved t c =
    let h = c.args.world.now.h.now in
    let x = c.index-members-m.result in
    let at = member_walked h c.args.c c.class.result.now c.as_slice-members.result.now c.class.ensures c.as_slice-members.ensures c.loop-m.m x c.loop-m-test.true c.index-members-m.is in
    members_next h c.args.c c.args.k c.loop-m.m x c.member_offset.result at.at (c.member_offset.ensures h c.requires.world.are_numbers at.below) c.args.leaves.now.items c.loop-m.leaves.items c.push_member.new.leaves.items c.loop-m.invariant c.in_ok-push_member.ensures

pub push_whole-push_own-requires : goal.push_whole-push_own-requires
push_whole-push_own-requires t c =
    let h = c.args.world.now.h.now in
    let is = c.as_slice-base-items.ensures ∙ c.in_ok-put_subobjects.ensures.preorder in
    let low = base_walked h c.requires.world.hierarchy c.args.c c.as_slice-base-items.result.now is c.loop-base.base-index c.base-item.result c.loop-base-test.true c.base-item.is c.class_or_first-d.result c.class_or_first-d.ensures in
    let d = c.decreases in
    let known = c.requires.known in
    (omega arith, (c.requires.world, omega arith))

pub push_whole-loop-base-preserved : goal.push_whole-loop-base-preserved
push_whole-loop-base-preserved t c =
    let h = c.args.world.now.h.now in
    let is = c.as_slice-base-items.ensures ∙ c.in_ok-put_subobjects.ensures.preorder in
    bases_step h c.requires.world.hierarchy c.args.c c.args.k c.as_slice-base-items.result.now c.loop-base.base-index c.base-item.result is c.loop-base-test.true c.base-item.is c.class_or_first-d.result c.class_or_first-d.ensures
    c.number_in.result c.number_in.ensures c.args.leaves.now.items c.loop-base.leaves.items c.push_own.new.leaves.items c.loop-base.invariant c.in_ok-push_own.ensures
