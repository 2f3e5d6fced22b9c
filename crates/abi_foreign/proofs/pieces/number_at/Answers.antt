use Rattle.std.proofs.Common.{arith}
use Rattle.abi_foreign.proofs.Digits.{empty_digits, zero_first, number_read, too_large}
use Rattle.abi_foreign.proofs.pieces.number_at.Goals.{in-len1, in-len2-up+else-first-eq48}
use Rattle.abi_foreign.proofs.pieces.number_at.Goals as goal

pub returns-in-empty : goal.returns-in-empty
returns-in-empty c = empty_digits c.args.text.now c.split_digits.result.0.now c.split_digits.result.1.now c.in-empty.len_below c.split_digits.ensures.parts c.split_digits.ensures.rest

pub returns-then-first-eq48 : goal.returns-then-first-eq48
returns-then-first-eq48 c = zero_first c.args.text.now c.split_digits.result.0.now c.split_digits.result.1.now c.in-len2-up.len_at_least c.if-first-eq48.true c.split_digits.ensures.parts c.split_digits.ensures.digits c.split_digits.ensures.rest

pub returns-in-Some : goal.returns-in-Some
returns-in-Some c =
    let digits = c.split_digits.result.0.now in
    elim c.if-digits-lt2.branch [
      | in-len1 w ↦ number_read c.args.text.now digits c.split_digits.result.1.now c.in-Some.value c.split_digits.ensures.parts c.split_digits.ensures.digits c.split_digits.ensures.rest (let some = w.in-len1.len_at_least in omega arith) (λ zero. let some = w.in-len1.len_at_least in let few = w.in-len1.len_below in omega arith) c.in-Some.ensures
      | in-len2-up+else-first-eq48 w ↦ number_read c.args.text.now digits c.split_digits.result.1.now c.in-Some.value c.split_digits.ensures.parts c.split_digits.ensures.digits c.split_digits.ensures.rest (let long = w.in-len2-up.len_at_least in omega arith) (λ zero. absurd (w.if-first-eq48.false zero)) c.in-Some.ensures
    ]

pub returns-in-None : goal.returns-in-None
returns-in-None c = too_large c.args.text.now c.split_digits.result.0.now c.split_digits.result.1.now c.split_digits.ensures.parts c.split_digits.ensures.digits c.split_digits.ensures.rest c.in-None.ensures
