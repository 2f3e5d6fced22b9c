use Rattle.abi_slots.specs.Images.{HasInfo}
use Rattle.abi_image.specs.invariants.Drafts.{class_address, info_size}
use Rattle.std.proofs.Common.{arith}
use Rattle.foundation.proofs.Places.{get_read}
use Rattle.abi_image.proofs.Filling.{fills_more, fills_all}
use Rattle.abi_image.proofs.Rooms.{four_each, next_inside, word_room}
use Rattle.cxx_hierarchy.specs.Classes.{class_by_number}
use Rattle.abi_image.proofs.infos.push_infos.Goals as goal

pub overflow_cast-c : goal.overflow_cast-c
overflow_cast-c c =
    let four = four_each c.args.infos.now in
    let few = c.requires.few in
    let less = c.loop-c-test.true in
    omega (arith, four, few, less)

pub push_info-requires-clause-bases : goal.push_info-requires-clause-bases
push_info-requires-clause-bases c = c.requires.bases c.loop-c.c c.index-infos-c.result (get_read c.args.infos.now c.loop-c.c c.index-infos-c.result c.loop-c-test.true c.index-infos-c.is)

pub push_info-requires-clause-few : goal.push_info-requires-clause-few
push_info-requires-clause-few c =
    let inside = next_inside info_size c.args.infos.now c.loop-c.c c.index-infos-c.result c.loop-c-test.true c.index-infos-c.is in
    let few = c.requires.few in
    omega (arith, inside, few)

pub push_info-requires-clause-room : goal.push_info-requires-clause-room
push_info-requires-clause-room c =
    word_room info_size (λ image i info at. HasInfo image (class_address c.args.infos_at.now) (class_by_number i) info at) c.args.infos.now c.loop-c.c c.index-infos-c.result c.args.draft.now c.loop-c.draft c.loop-c-test.true c.index-infos-c.is c.loop-c.invariant c.requires.room

pub loop-c-preserved : goal.loop-c-preserved
loop-c-preserved c = fills_more info_size (λ image i info at. HasInfo image (class_address c.args.infos_at.now) (class_by_number i) info at) c.args.infos.now c.loop-c.c c.index-infos-c.result c.args.draft.now c.loop-c.draft c.push_info.new.draft c.loop-c-test.true c.index-infos-c.is c.loop-c.invariant c.in_ok-push_info.ensures

pub returns : goal.returns
returns c = fills_all info_size (λ image i info at. HasInfo image (class_address c.args.infos_at.now) (class_by_number i) info at) c.args.infos.now c.loop-c.c c.args.draft.now c.loop-c.draft c.loop-c-test.false c.loop-c.invariant
