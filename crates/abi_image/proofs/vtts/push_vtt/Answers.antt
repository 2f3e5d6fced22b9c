use Rattle.abi_image.specs.invariants.Drafts.{address_in, one_word}
use Rattle.abi_image.specs.invariants.Points.{HasPointAt}
use Rattle.abi_image.proofs.Filling.{fills_more, fills_words}
use Rattle.abi_image.proofs.VttWords.{puts_point}
use Rattle.abi_image.proofs.vtts.push_vtt.Goals as goal

pub loop-word-preserved : goal.loop-word-preserved
loop-word-preserved c = fills_more one_word (λ image i word at. HasPointAt image c.args.groups.now (address_in c.args.places.now.at.items) at word) c.args.vtt.now c.loop-word.word-index c.word-item.result c.args.draft.now c.loop-word.draft c.push.new.self c.loop-word-test.true c.word-item.is c.loop-word.invariant
    (puts_point c.loop-word.draft c.push.new.self c.args.groups.now (address_in c.args.places.now.at.items) c.word-item.result c.point_of.result c.point_of.ensures c.in_ok-push.ensures.words c.in_ok-push.ensures.records c.in_ok-push.ensures.place)

pub returns : goal.returns
returns c = fills_words (λ image at word. HasPointAt image c.args.groups.now (address_in c.args.places.now.at.items) at word) c.args.vtt.now c.loop-word.word-index c.args.draft.now c.loop-word.draft c.loop-word-test.false c.loop-word.invariant
