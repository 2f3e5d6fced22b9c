use Rattle.std.proofs.Common.{ap, ◌∙◌, arith}
use Rattle.path_columns.specs.Digits.{digit}
use Rattle.path_columns.proofs.Putting.{digit_put, written, written_low, code_low}
use Rattle.path_columns.proofs.digits.with_digit.Goals as goal

pub overflow_mul-result-2 : goal.overflow_mul-result-2
overflow_mul-result-2 c =
    let low = code_low c.args.bits c.args.word c.args.place c.args.code c.requires.wide c.requires.within c.requires.small c.ranges.word.fits in
    omega (arith, low)

pub overflow_add-result : goal.overflow_add-result
overflow_add-result c =
    let is = written c.args.bits c.args.word c.args.place c.args.code c.requires.wide c.requires.within c.requires.small c.ranges.word.fits in
    let low = written_low c.args.bits c.args.word c.args.place c.args.code c.requires.wide c.requires.within c.requires.small c.ranges.word.fits in
    omega (arith, is, low)

pub returns : goal.returns
returns c = λ p.
    ap (λ w. digit c.args.bits w p) (written c.args.bits c.args.word c.args.place c.args.code c.requires.wide c.requires.within c.requires.small c.ranges.word.fits)
    ∙ digit_put c.args.bits c.args.word c.args.place c.args.code p c.requires.small
