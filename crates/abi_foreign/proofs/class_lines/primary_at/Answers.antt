use Rattle.abi_foreign.proofs.Found.{none_then}
use Rattle.abi_foreign.proofs.PrimaryReads.{no_first_word, no_line_end, no_word, primary_read}
use Rattle.abi_foreign.proofs.class_lines.primary_at.Goals as goal

pub returns-in_err-rest : goal.returns-in_err-rest
returns-in_err-rest c = none_then c.from_residual.result _ _ c.from_residual.ensures (no_first_word c.args.h.now c.args.text.now c.in_err-rest.ensures)

pub returns-in_err-word : goal.returns-in_err-word
returns-in_err-word c =
    none_then c.from_residual-in_err-word.result _ _ c.from_residual-in_err-word.ensures (no_line_end c.args.h.now c.args.text.now c.in_ok-rest.rest.now c.in_ok-rest.ensures c.in_err-word.ensures)

pub returns-in_err-primary : goal.returns-in_err-primary
returns-in_err-primary c =
    none_then c.from_residual-in_err-primary.result _ _ c.from_residual-in_err-primary.ensures
    (no_word c.args.h.now c.args.text.now c.in_ok-rest.rest.now c.in_ok-word.word.now c.in_ok-word.rest.now c.in_ok-rest.ensures c.in_ok-word.ensures c.in_err-primary.ensures)

pub returns : goal.returns
returns c = primary_read c.args.h.now c.args.text.now c.in_ok-rest.rest.now c.in_ok-word.word.now c.in_ok-word.rest.now c.in_ok-primary.primary c.in_ok-rest.ensures c.in_ok-word.ensures c.in_ok-primary.ensures
