use Rattle.abi_foreign.proofs.Digits.{not_before, before_read}
use Rattle.abi_foreign.proofs.Found.{none_then}
use Rattle.abi_foreign.proofs.pieces.number_before.Goals as goal

pub returns-in_err-rest : goal.returns-in_err-rest
returns-in_err-rest c =
    none_then c.from_residual-in_err-rest.result _ _ c.from_residual-in_err-rest.ensures
    (not_before c.args.text.now c.args.piece.now c.in_ok-value.value c.in_ok-value.rest.now c.requires c.in_ok-value.ensures c.in_err-rest.ensures)

pub returns : goal.returns
returns c = before_read c.args.text.now c.args.piece.now c.in_ok-value.value c.in_ok-value.rest.now c.in_ok-rest.rest.now c.requires c.in_ok-value.ensures c.in_ok-rest.ensures
