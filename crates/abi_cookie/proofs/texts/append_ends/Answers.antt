use Rattle.std.proofs.Common.{get_or}
use Rattle.foundation.proofs.Places.{any_default}
use Rattle.abi_cookie.proofs.TextLines.{one-end}
use Rattle.abi_cookie.proofs.texts.append_ends.Goals as goal

pub loop-at-preserved : goal.loop-at-preserved
loop-at-preserved c = λ numbers are.
    one-end c.args.first c.args.size c.args.cookie c.args.ended.now numbers c.loop-at.at-index (get_or c.args.ended.now c.loop-at.at-index 0) c.args.text.now.items c.loop-at.text.items c.append_end.new.text.items
    c.requires.some_size c.loop-at-test.true (any_default c.args.ended.now c.loop-at.at-index 0 (get_or c.args.ended.now c.loop-at.at-index 0) c.loop-at-test.true) are (c.loop-at.invariant numbers are) c.in_ok-append_end.ensures
