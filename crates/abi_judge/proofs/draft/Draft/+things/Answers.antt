use Rattle.std.proofs.Common.{rules, ◌∙◌, ◌+◌, ◌*◌, ◌^◌, ◌<◌, refl, ap, sym, subst, arith}
use Rattle.std.proofs.lemmas.Result.{on_ok_weaker}
use Rattle.cxx_subobject.proofs.PathLemmas.{class_low, class_found}
use Rattle.cxx_subobject.proofs.TreeLemmas.{valid_at}
use Rattle.abi_sound.specs.Places.{size_in_row}
use Rattle.abi_judge.specs.invariants.Things.{part_thing, setting_of}
use Rattle.abi_judge.specs.invariants.Pushes.{AddsObjects}
use Rattle.abi_judge.proofs.Known.{draft_lower, row_known, object_before, few_bytes, member_met}
use Rattle.abi_judge.proofs.Pushed.{objects_next, members_next, bases_next, objects_added}
use Rattle.abi_judge.proofs.draft.Draft.+things.Goals as goal

pub push_member-push_objects-requires : goal.push_member-push_objects-requires
push_member-push_objects-requires t c =
    let before = object_before c.args.self.now.h.now c.requires.draft.is.keeps c.args.d c.in-Object.b c.args.m c.args.member.now c.requires.there c.in-Object.is in
    let small = c.member_place.ensures.small in
    let room = c.requires.room in
    let falls = c.decreases in
    (omega (arith, before, falls), (draft_lower c.args.self.now c.args.d c.in-Object.b c.requires.draft (omega (arith, before)), omega (arith, before, small, room)))

pub push_member-returns-in-Object : goal.push_member-returns-in-Object
push_member-returns-in-Object t c =
    let x = setting_of c.args.self.now in
    let member = c.args.member.now in
    let start = c.args.at + c.member_place.result in
    let old = c.args.things.now.items in
    let new = c.push_objects.new.things.items in
    let before = object_before c.args.self.now.h.now c.requires.draft.is.keeps c.args.d c.in-Object.b c.args.m member c.requires.there c.in-Object.is in
    on_ok_weaker c.push_objects.result
    (λ (added : AddsObjects x c.in-Object.b start c.elements.result old new).
    objects_added x c.args.d c.in-Object.b c.args.at c.args.m start member old new c.requires.there c.in-Object.is before (ap (λ n. c.args.at + n) c.member_place.ensures.is)
    (subst (λ n. AddsObjects x c.in-Object.b start n old new) c.elements.ensures added)) c.push_objects.ensures

pub push_object-place-requires-clause-subobject : goal.push_object-place-requires-clause-subobject
push_object-place-requires-clause-subobject t c = valid_at c.args.self.now.h.now c.args.e c.args.bases.now c.loop-s.s-index c.s-item.result c.requires.listed c.loop-s-test.true c.s-item.is

pub push_object-push_part-requires-clause-held : goal.push_object-push_part-requires-clause-held
push_object-push_part-requires-clause-held t c = c.requires.draft.held c.args.e (omega arith)

pub push_object-push_part-requires-clause-subobject : goal.push_object-push_part-requires-clause-subobject
push_object-push_part-requires-clause-subobject t c = valid_at c.args.self.now.h.now c.args.e c.args.bases.now c.loop-s.s-index c.s-item.result c.requires.listed c.loop-s-test.true c.s-item.is

pub push_object-push_part-requires-clause-class : goal.push_object-push_part-requires-clause-class
push_object-push_part-requires-clause-class t c =
    let h = c.args.self.now.h.now in
    let valid = valid_at h c.args.e c.args.bases.now c.loop-s.s-index c.s-item.result c.requires.listed c.loop-s-test.true c.s-item.is in
    class_found h c.args.e c.class_or_first-d.result c.s-item.result valid c.class_or_first-d.ensures

pub push_object-push_own-requires : goal.push_object-push_own-requires
push_object-push_own-requires t c =
    let h = c.args.self.now.h.now in
    let d = c.class_or_first-d.result in
    let valid = valid_at h c.args.e c.args.bases.now c.loop-s.s-index c.s-item.result c.requires.listed c.loop-s-test.true c.s-item.is in
    let class = class_found h c.args.e d c.s-item.result valid c.class_or_first-d.ensures in
    let low = class_low h c.requires.draft.is.keeps c.args.e d c.s-item.result valid class in
    let small = c.place.ensures.small in
    let room = c.requires.room in
    let falls = c.decreases in
    (omega (arith, low, falls), (draft_lower c.args.self.now c.args.e d c.requires.draft low, omega (arith, low, small, room)))

pub push_object-loop-s-preserved : goal.push_object-loop-s-preserved
push_object-loop-s-preserved t c =
    let h = c.args.self.now.h.now in
    let d = c.class_or_first-d.result in
    let s = c.s-item.result in
    let valid = valid_at h c.args.e c.args.bases.now c.loop-s.s-index s c.requires.listed c.loop-s-test.true c.s-item.is in
    let class = class_found h c.args.e d s valid c.class_or_first-d.ensures in
    let low = class_low h c.requires.draft.is.keeps c.args.e d s valid class in
    let x = setting_of c.args.self.now in
    let place = c.args.at + c.place.result in
    bases_next x c.args.e d s c.args.at place c.args.bases.now c.loop-s.s-index (part_thing x place c.args.e s d) c.args.things.now.items c.loop-s.things.items c.push_part.new.things.items c.push_own.new.things.items
    c.loop-s-test.true c.s-item.is class low (ap (λ n. c.args.at + n) c.place.ensures.is) refl c.loop-s.invariant c.in_ok-push_part.ensures c.in_ok-push_own.ensures

pub push_objects-row-requires : goal.push_objects-row-requires
push_objects-row-requires t c = row_known c.args.self.now c.requires.draft.is c.args.b c.requires.draft.known

pub push_objects-overflow_mul-i : goal.push_objects-overflow_mul-i
push_objects-overflow_mul-i t c =
    let small = (c.requires.draft.is.small c.args.b.0 c.row.result.now c.row.ensures).size in
    let few : c.args.count < 2 ^ 32 = search rules in
    let bytes = few_bytes c.loop-i.i c.args.count c.row.result.now.size c.loop-i-test.true few small in
    omega (arith, bytes)

pub push_objects-overflow_add-start : goal.push_objects-overflow_add-start
push_objects-overflow_add-start t c =
    let small = (c.requires.draft.is.small c.args.b.0 c.row.result.now c.row.ensures).size in
    let few : c.args.count < 2 ^ 32 = search rules in
    let bytes = few_bytes c.loop-i.i c.args.count c.row.result.now.size c.loop-i-test.true few small in
    let room = c.requires.room in
    omega (arith, bytes, room)

pub push_objects-push_object-requires : goal.push_objects-push_object-requires
push_objects-push_object-requires t c =
    let small = (c.requires.draft.is.small c.args.b.0 c.row.result.now c.row.ensures).size in
    let few : c.args.count < 2 ^ 32 = search rules in
    let bytes = few_bytes c.loop-i.i c.args.count c.row.result.now.size c.loop-i-test.true few small in
    let room = c.requires.room in
    let falls = c.decreases in
    (omega (arith, falls), (c.requires.draft, (c.as_slice.ensures ∙ c.in_ok-put_subobjects.ensures.preorder, omega (arith, bytes, room))))

pub push_objects-loop-i-preserved : goal.push_objects-loop-i-preserved
push_objects-loop-i-preserved t c =
    objects_next (setting_of c.args.self.now) c.args.b c.args.start c.loop-i.i (c.args.start + c.loop-i.i * c.row.result.now.size) c.args.things.now.items c.loop-i.things.items c.push_object.new.things.items
    (ap (λ n. c.args.start + c.loop-i.i * n) (sym (ap size_in_row c.row.ensures))) c.loop-i.invariant c.in_ok-push_object.ensures

pub push_own-overflow_cast-m : goal.push_own-overflow_cast-m
push_own-overflow_cast-m t c =
    let met = member_met c.args.self.now.h.now c.requires.draft.is.keeps c.args.d c.class.result.now c.as_slice-members.result.now c.loop-m.m c.index-members-m.result c.class.ensures c.as_slice-members.ensures c.loop-m-test.true c.index-members-m.is in
    let few = met.few in omega (arith, few)

pub push_own-push_member-requires : goal.push_own-push_member-requires
push_own-push_member-requires t c =
    let met = member_met c.args.self.now.h.now c.requires.draft.is.keeps c.args.d c.class.result.now c.as_slice-members.result.now c.loop-m.m c.index-members-m.result c.class.ensures c.as_slice-members.ensures c.loop-m-test.true c.index-members-m.is in
    let falls = c.decreases in
    (omega (arith, falls), (c.requires.draft, (met.there, c.requires.room)))

pub push_own-loop-m-preserved : goal.push_own-loop-m-preserved
push_own-loop-m-preserved t c =
    members_next (setting_of c.args.self.now) c.args.d c.args.at c.loop-m.m c.args.things.now.items c.loop-m.things.items c.push_member.new.things.items c.loop-m.invariant c.in_ok-push_member.ensures
