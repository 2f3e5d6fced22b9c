use Rattle.foundation.proofs.Truth.{always, never, not_both}
use Rattle.abi_judge.proofs.Sorted.{no_key, key_next, key_found, keys_done}
use Rattle.abi_judge.proofs.apart.repeats.Goals as goal

pub loop-i-preserved : goal.loop-i-preserved
loop-i-preserved c = key_next c.args.keys.now c.loop-i.i no_key c.loop-i.auto.i c.loop-i-test.true c.loop-i.invariant (λ same. not_both (c.is_same_key.ensures.1 same) c.if-is_same_key.false)

pub returns-then-is_same_key : goal.returns-then-is_same_key
returns-then-is_same_key c = always (key_found c.args.keys.now c.loop-i.i no_key c.loop-i.auto.i c.loop-i-test.true (c.is_same_key.ensures.0 c.if-is_same_key.true))

pub returns : goal.returns
returns c = never (λ none. none (keys_done c.args.keys.now c.loop-i.i c.requires c.loop-i-test.false c.loop-i.invariant))
