use Rattle.std.proofs.Common.{◌<◌, length, arith}
use Rattle.abi_foreign.proofs.PrimaryReads.{word_there}
use Rattle.abi_foreign.proofs.class_lines.word_at.Goals as goal

pub returns : goal.returns
returns c =
    let end = c.line_end-end.result in
    let within = c.line_end-end.ensures.within in
    let other = c.if-end-text.false in
    let lt : end < length c.args.text.now = omega (arith, within, other) in
    word_there c.args.text.now c.split_at.result.0.now c.split_at.result.1.now end lt c.line_end-end.ensures.before (c.line_end-end.ensures.found lt) c.split_at.ensures.front c.split_at.ensures.back
