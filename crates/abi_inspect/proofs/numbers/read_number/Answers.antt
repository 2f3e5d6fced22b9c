use Rattle.std.proofs.Common.{◌∙◌}
use Rattle.std.proofs.lemmas.Fmt.{parse-decimal}
use Rattle.abi_inspect.proofs.Digits.{utf8_digits}
use Rattle.abi_inspect.proofs.numbers.read_number.Goals as goal

pub returns-in_default : goal.returns-in_default
returns-in_default c = λ n lt e. absurd (c.in_default.ensures.cases.0 (utf8_digits n c.args.text.now lt e))

pub returns-in-Ok-parse : goal.returns-in-Ok-parse
returns-in-Ok-parse c = λ n lt e.
    let made = parse-decimal 64 n c.in-Ok.digits.now c.parse.result lt lt (c.in-Ok.ensures.cases.0 ∙ e) c.parse.ensures.value.0 in
    let is = c.in-Ok-parse.is in
    cc

pub returns-in-Err : goal.returns-in-Err
returns-in-Err c = λ n lt e.
    let made = parse-decimal 64 n c.in-Ok.digits.now c.parse.result lt lt (c.in-Ok.ensures.cases.0 ∙ e) c.parse.ensures.value.0 in
    let is = c.in-Err.is in
    cc
