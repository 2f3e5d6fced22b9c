use Rattle.std.proofs.Common.{◌<◌, length, arith}
use Rattle.abi_inspect.proofs.Cuts.{cut_at}
use Rattle.abi_inspect.proofs.splits.split_at_byte.Goals as goal

pub returns : goal.returns
returns c =
    let at = c.first_of-at.result in
    let within = c.first_of-at.ensures.within in
    let other = c.if-at-text.false in
    let lt : at < length c.args.text.now = omega (arith, within, other) in
    let cut = cut_at c.args.text.now c.split_at.result.0.now c.split_at.result.1.now c.args.byte at lt c.first_of-at.ensures.before (c.first_of-at.ensures.found lt) c.split_at.ensures.front c.split_at.ensures.back in
    (cut.is, cut.before)
