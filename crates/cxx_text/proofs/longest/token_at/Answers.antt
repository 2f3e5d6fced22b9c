use Rattle.std.proofs.Common.{arith, true, false, ap, sym, ◌∙◌, min}
use Rattle.cxx_text.specs.Bytes.{is_letter, is_digit}
use Rattle.cxx_text.specs.invariants.Front.{number_value}
use Rattle.cxx_text.proofs.LongestPiece.{begins_is, word_here, number_here, no_number, sign_here, no_sign}
use Rattle.cxx_text.proofs.longest.token_at.Goals as goal

pub returns-in_err-value-clause-none : goal.returns-in_err-value-clause-none
returns-in_err-value-clause-none c =
    rw c.from_residual.ensures (no_number c.args.text.now c.run_len-len.result
    (begins_is is_digit c.args.text.now 0 c.is_digit.result true c.in-len1-up.len_at_least c.is_digit.ensures c.if-is_digit.true)
    c.run_len-len.ensures.value
    (sym (c.number_value.ensures ∙ ap number_value c.split_at.ensures.front) ∙ c.in_err-value.was))

pub returns-then-is_letter-clause-found : goal.returns-then-is_letter-clause-found
returns-then-is_letter-clause-found c =
    word_here c.args.text.now _ (begins_is is_letter c.args.text.now 0 c.is_letter.result true c.in-len1-up.len_at_least c.is_letter.ensures c.if-is_letter.true)
    (c.min-len.ensures ∙ ap (λ n. min n 255) c.run_len.ensures.value)

pub returns-in_ok-value-clause-found : goal.returns-in_ok-value-clause-found
returns-in_ok-value-clause-found c =
    number_here c.args.text.now c.run_len-len.result c.in_ok-value.value
    (begins_is is_digit c.args.text.now 0 c.is_digit.result true c.in-len1-up.len_at_least c.is_digit.ensures c.if-is_digit.true)
    c.run_len-len.ensures.value
    (sym (c.number_value.ensures ∙ ap number_value c.split_at.ensures.front) ∙ c.in_ok-value.was)

pub returns-else-len-eq0-clause-found : goal.returns-else-len-eq0-clause-found
returns-else-len-eq0-clause-found c =
    sign_here c.args.text.now c.sign_len-len.result
    (begins_is is_letter c.args.text.now 0 c.is_letter.result false c.in-len1-up.len_at_least c.is_letter.ensures c.if-is_letter.false)
    (begins_is is_digit c.args.text.now 0 c.is_digit.result false c.in-len1-up.len_at_least c.is_digit.ensures c.if-is_digit.false)
    c.sign_len-len.ensures (omega arith)

pub returns-then-len-eq0-clause-none : goal.returns-then-len-eq0-clause-none
returns-then-len-eq0-clause-none c =
    no_sign c.args.text.now c.sign_len-len.result
    (begins_is is_letter c.args.text.now 0 c.is_letter.result false c.in-len1-up.len_at_least c.is_letter.ensures c.if-is_letter.false)
    (begins_is is_digit c.args.text.now 0 c.is_digit.result false c.in-len1-up.len_at_least c.is_digit.ensures c.if-is_digit.false)
    c.sign_len-len.ensures (omega arith)
