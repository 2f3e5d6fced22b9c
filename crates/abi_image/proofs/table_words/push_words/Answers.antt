use Rattle.std.proofs.Common.{◌<◌, pos, get_or, sym, subst}
use Rattle.foundation.proofs.Places.{any_default}
use Rattle.abi_slots.specs.declared.words.TableWord.TheVariants.{Top}
use Rattle.abi_slots.specs.Images.{HasWord}
use Rattle.abi_image.specs.invariants.Drafts.{HasRecordRoom, class_address, one_word}
use Rattle.abi_image.proofs.Filling.{fills_next, fills_words}
use Rattle.abi_image.proofs.Lists.{total_one}
use Rattle.abi_image.proofs.Rooms.{record_room}
use Rattle.abi_image.proofs.table_words.push_words.Goals as goal

pub push_word-requires-clause-place : goal.push_word-requires-clause-place
push_word-requires-clause-place c = subst (λ n. 0 < n) (sym c.loop-word.invariant.puts.same_place) c.requires.place

pub push_word-requires-clause-room : goal.push_word-requires-clause-room
push_word-requires-clause-room c =
    let word = get_or c.args.words.now c.loop-word.word-index (Top (pos 0)) in
    let is = any_default c.args.words.now c.loop-word.word-index (Top (pos 0)) word c.loop-word-test.true in
    record_room one_word (λ image i word at. HasWord image c.args.codes.now (class_address c.args.infos.now) at word) c.args.words.now c.loop-word.word-index word c.args.draft.now c.loop-word.draft c.loop-word-test.true is c.loop-word.invariant
    (subst (λ n. HasRecordRoom c.args.draft.now n) (sym (total_one c.args.words.now)) c.requires.room)

pub loop-word-preserved : goal.loop-word-preserved
loop-word-preserved c = fills_next one_word (λ image i word at. HasWord image c.args.codes.now (class_address c.args.infos.now) at word) c.args.words.now c.loop-word.word-index _ c.args.draft.now c.loop-word.draft c.push_word.new.draft c.loop-word-test.true c.loop-word.invariant c.in_ok-push_word.ensures

pub returns : goal.returns
returns c = fills_words (λ image at word. HasWord image c.args.codes.now (class_address c.args.infos.now) at word) c.args.words.now c.loop-word.word-index c.args.draft.now c.loop-word.draft c.loop-word-test.false c.loop-word.invariant
