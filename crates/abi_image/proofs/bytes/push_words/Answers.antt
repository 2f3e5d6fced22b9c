use Rattle.std.proofs.Common.{◌<◌, ◌^◌, subst, get_or, rules}
use Rattle.std.proofs.lemmas.List.{take_all}
use Rattle.foundation.proofs.Places.{any_default}
use Rattle.abi_image.specs.invariants.Bytes.{PutsWords}
use Rattle.abi_image.proofs.ByteWords.{words_none, words_next}
use Rattle.abi_image.proofs.bytes.push_words.Goals as goal

pub loop-word-init : goal.loop-word-init
loop-word-init c = words_none c.args.bytes.now.items

pub loop-word-preserved : goal.loop-word-preserved
loop-word-preserved c =
    let w = get_or c.args.words.now c.loop-word.word-index 0 in
    let small : get_or c.args.words.now c.loop-word.word-index 0 < 2 ^ 64 = search rules in
    words_next c.args.bytes.now.items c.loop-word.bytes.items c.push_word.new.bytes.items c.args.words.now c.loop-word.word-index w c.loop-word-test.true (any_default c.args.words.now c.loop-word.word-index 0 w c.loop-word-test.true) small c.in_ok-push_word.ensures c.loop-word.invariant

pub returns : goal.returns
returns c = subst (λ l. PutsWords c.args.bytes.now.items c.loop-word.bytes.items l) (take_all c.loop-word.word-index c.args.words.now c.loop-word-test.false) c.loop-word.invariant
