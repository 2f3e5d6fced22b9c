use Rattle.std.proofs.Common.{sym}
use Rattle.byte_machine.proofs.Ranges.{not_in_range, range_fits, reads_itself}
use Rattle.byte_machine.proofs.numbers.is_in_width.Goals as goal

pub returns-in-None : goal.returns-in-None
returns-in-None c = λ z h.
    let past = rw c.in-None.is at h in
    sym (not_in_range c.args.width z c.requires.signed (λ inside. past (range_fits c.args.width z c.requires.bytes c.requires.signed inside)))

pub returns-in-Some : goal.returns-in-Some
returns-in-Some c = λ z h.
    let is = rw c.in-Some.is at h in
    reads_itself c.args.width c.signed_number.result c.in-Some.number z c.cast_unsigned.result c.requires.bytes c.requires.signed is.0 is.1 c.cast_unsigned.ensures c.signed_number.ensures
