use Rattle.std.proofs.Common.{rules, ◌≡◌, ◌∙◌, ℕ, ap, length, take, arith}
use Rattle.abi_cookie.proofs.Ending.{one-ended, taken-back, on_err-at}
use Rattle.abi_cookie.proofs.arrays.append_ended.Goals as goal

pub returns-then-is_err-clause-kept : goal.returns-then-is_err-clause-kept
returns-then-is_err-clause-kept c =
    let same : c.push.new.self ≡ c.loop-i.ended = on_err-at c.push.result c.is_err.result c.is_err.ensures.value c.if-is_err.true c.push.ensures.err in
    c.truncate.ensures
    ∙ (ap (λ (n : ℕ). take n c.push.new.self) c.len-len.ensures
    ∙ (ap (take (length c.args.ended.now)) same
    ∙ taken-back c.loop-i.ended c.args.ended.now c.args.first c.args.size c.loop-i.i c.args.count (omega arith) c.loop-i.invariant))

pub loop-i-preserved : goal.loop-i-preserved
loop-i-preserved c =
    one-ended c.loop-i.ended c.push.new.self c.args.ended.now c.args.first c.args.size c.loop-i.i c.args.count (omega arith) c.loop-i.invariant (search rules)
