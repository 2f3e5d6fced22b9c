use Rattle.std.proofs.Common.{◌<◌, length, sym, subst}
use Rattle.abi_slots.specs.Images.{HasWord, StandsAt, all_words}
use Rattle.abi_image.specs.invariants.Drafts.{AllAt, HasRecordRoom, Puts, class_address, group_size}
use Rattle.abi_image.proofs.Filling.{fills_more, fills_all}
use Rattle.abi_image.proofs.Rooms.{record_room}
use Rattle.abi_image.proofs.table_words.push_groups.Goals as goal

pub push_tables-requires-clause-place : goal.push_tables-requires-clause-place
push_tables-requires-clause-place c = subst (λ n. 0 < n) (sym c.loop-group.invariant.puts.same_place) c.requires.place

pub push_tables-requires-clause-room : goal.push_tables-requires-clause-room
push_tables-requires-clause-room c =
    subst (λ tables. HasRecordRoom c.loop-group.draft (length (all_words tables))) (sym c.as_slice.ensures)
    (record_room group_size (λ image i group at. StandsAt image c.args.codes.now (class_address c.args.infos.now) group at) c.args.groups.now c.loop-group.group-index c.group-item.result c.args.draft.now c.loop-group.draft c.loop-group-test.true c.group-item.is c.loop-group.invariant c.requires.room)

pub loop-group-preserved : goal.loop-group-preserved
loop-group-preserved c = fills_more group_size (λ image i group at. StandsAt image c.args.codes.now (class_address c.args.infos.now) group at) c.args.groups.now c.loop-group.group-index c.group-item.result c.args.draft.now c.loop-group.draft c.push_tables.new.draft c.loop-group-test.true c.group-item.is c.loop-group.invariant
    (subst (λ ts. Puts c.loop-group.draft c.push_tables.new.draft (length (all_words ts)) (λ image at. AllAt (HasWord image c.args.codes.now (class_address c.args.infos.now)) (all_words ts) at)) c.as_slice.ensures c.in_ok-push_tables.ensures)

pub returns : goal.returns
returns c = fills_all group_size (λ image i group at. StandsAt image c.args.codes.now (class_address c.args.infos.now) group at) c.args.groups.now c.loop-group.group-index c.args.draft.now c.loop-group.draft c.loop-group-test.false c.loop-group.invariant
