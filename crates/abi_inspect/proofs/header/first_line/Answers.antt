use Rattle.abi_inspect.proofs.Headers.{has_line, has_other_space, has_space, line_cut, number_cut, parts_cut}
use Rattle.abi_inspect.proofs.LineReads.{none_then}
use Rattle.abi_inspect.proofs.header.first_line.Goals as goal

pub returns-in_err-line : goal.returns-in_err-line
returns-in_err-line c =
    none_then c.from_residual-in_err-line.result _ _ c.from_residual-in_err-line.ensures
    (λ n w s r is. has_line n w s r c.args.text.now is c.in_ok-text.text.now c.in_ok-text.ensures c.in_err-line.ensures)

pub returns-in_err-number : goal.returns-in_err-number
returns-in_err-number c =
    none_then c.from_residual-in_err-number.result _ _ c.from_residual-in_err-number.ensures
    (λ n w s r is.
    let cut = line_cut n w s r c.args.text.now is c.in_ok-text.text.now c.in_ok-line.line.now c.in_ok-line.rest.now c.in_ok-text.ensures c.in_ok-line.ensures.0 c.in_ok-line.ensures.1 in
    has_space n w s r c.args.text.now is c.in_ok-line.line.now cut.0 c.in_err-number.ensures)

pub returns-in_err-name : goal.returns-in_err-name
returns-in_err-name c =
    none_then c.from_residual-in_err-name.result _ _ c.from_residual-in_err-name.ensures
    (λ n w s r is.
    let cut = line_cut n w s r c.args.text.now is c.in_ok-text.text.now c.in_ok-line.line.now c.in_ok-line.rest.now c.in_ok-text.ensures c.in_ok-line.ensures.0 c.in_ok-line.ensures.1 in
    let number = number_cut n w s r c.args.text.now is c.in_ok-line.line.now c.in_ok-number.number.now c.in_ok-number.line.now cut.0 c.in_ok-number.ensures.0 c.in_ok-number.ensures.1 in
    has_other_space n w s r c.args.text.now is c.in_ok-number.line.now number.1 c.in_err-name.ensures)

pub returns : goal.returns
returns c =
    parts_cut c.args.text.now c.in_ok-text.text.now c.in_ok-line.line.now c.in_ok-line.rest.now c.in_ok-number.number.now c.in_ok-number.line.now c.in_ok-name.name.now c.in_ok-name.size.now
    c.in_ok-text.ensures c.in_ok-line.ensures.0 c.in_ok-line.ensures.1 c.in_ok-number.ensures.0 c.in_ok-number.ensures.1 c.in_ok-name.ensures.0 c.in_ok-name.ensures.1
