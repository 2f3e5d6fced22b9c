use Rattle.abi_vtt.specs.Vtts.{item}
use Rattle.abi_vtt.proofs.WordSteps.{grows_word, word_is}
use Rattle.abi_vtt.proofs.sub_vtt.push_word.Goals as goal

pub returns : goal.returns
returns c = λ h l s view serving there.
    let v = c.args.x.now in
    let word = c.in_ok-word.word in
    grows_word h l v.complete (item v.at s) word c.args.words.now c.push.new.self (word_is h l v c.args.tables.now c.args.n word s view serving there c.in_ok-word.ensures.complete c.in_ok-word.ensures.view c.in_ok-word.ensures.table) c.in_ok-push.ensures.ok
