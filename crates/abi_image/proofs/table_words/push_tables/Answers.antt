use Rattle.std.proofs.Common.{◌<◌, length, sym, subst}
use Rattle.abi_slots.specs.Images.{HasWord, words_of}
use Rattle.abi_image.specs.invariants.Drafts.{AllAt, HasRecordRoom, Puts, class_address, table_size}
use Rattle.abi_image.proofs.Filling.{fills_more, fills_flat}
use Rattle.abi_image.proofs.Lists.{flat_total}
use Rattle.abi_image.proofs.Rooms.{record_room}
use Rattle.abi_image.proofs.table_words.push_tables.Goals as goal

pub push_words-requires-clause-place : goal.push_words-requires-clause-place
push_words-requires-clause-place c = subst (λ n. 0 < n) (sym c.loop-table.invariant.puts.same_place) c.requires.place

pub push_words-requires-clause-room : goal.push_words-requires-clause-room
push_words-requires-clause-room c =
    subst (λ ws. HasRecordRoom c.loop-table.draft (length ws)) (sym c.as_slice.ensures)
    (record_room table_size (λ image i table at. AllAt (HasWord image c.args.codes.now (class_address c.args.infos.now)) table.words at) c.args.tables.now c.loop-table.table-index c.table-item.result c.args.draft.now c.loop-table.draft c.loop-table-test.true c.table-item.is c.loop-table.invariant
    (subst (λ n. HasRecordRoom c.args.draft.now n) (sym (flat_total words_of c.args.tables.now)) c.requires.room))

pub loop-table-preserved : goal.loop-table-preserved
loop-table-preserved c = fills_more table_size (λ image i table at. AllAt (HasWord image c.args.codes.now (class_address c.args.infos.now)) table.words at) c.args.tables.now c.loop-table.table-index c.table-item.result c.args.draft.now c.loop-table.draft c.push_words.new.draft c.loop-table-test.true c.table-item.is c.loop-table.invariant
    (subst (λ ws. Puts c.loop-table.draft c.push_words.new.draft (length ws) (λ image at. AllAt (HasWord image c.args.codes.now (class_address c.args.infos.now)) ws at)) c.as_slice.ensures c.in_ok-push_words.ensures)

pub returns : goal.returns
returns c = fills_flat words_of (λ image at word. HasWord image c.args.codes.now (class_address c.args.infos.now) at word) c.args.tables.now c.loop-table.table-index c.args.draft.now c.loop-table.draft c.loop-table-test.false c.loop-table.invariant
