use Rattle.abi_foreign.proofs.LineReads.{no_bits_place, no_bits_first, bits_there}
use Rattle.abi_foreign.proofs.Found.{none_then}
use Rattle.abi_foreign.proofs.class_lines.bits_at.Goals as goal

pub returns-in_err-place : goal.returns-in_err-place
returns-in_err-place c = none_then c.from_residual.result _ _ c.from_residual.ensures (no_bits_place c.args.text.now c.args.tail.now c.in_err-place.ensures)

pub returns-in_err-first : goal.returns-in_err-first
returns-in_err-first c =
    none_then c.from_residual-in_err-first.result _ _ c.from_residual-in_err-first.ensures
    (no_bits_first c.args.text.now c.args.tail.now c.in_ok-place.place c.in_ok-place.rest.now c.in_ok-place.ensures c.in_err-first.ensures)

pub returns : goal.returns
returns c = bits_there c.args.text.now c.args.tail.now c.in_ok-place.place c.in_ok-place.rest.now c.in_ok-place.ensures c.in_ok-first.first c.in_ok-first.rest.now c.in_ok-first.ensures
