use Rattle.abi_inspect.proofs.Digits.{minus_read, plain_read}
use Rattle.abi_inspect.proofs.numbers.read_signed.Goals as goal

pub returns-in-Some : goal.returns-in-Some
returns-in-Some c = λ z small is.
    minus_read c.args.text.now c.in-Some.digits.now z c.read_number.result c.wrapping_neg.result c.in-Some.ensures small is c.read_number.ensures c.wrapping_neg.ensures c.wrapping_neg.type_inv

pub returns-in-None : goal.returns-in-None
returns-in-None c = λ z small is.
    plain_read c.args.text.now z c.read_number-in-None.result c.in-None.ensures small is c.read_number-in-None.ensures
