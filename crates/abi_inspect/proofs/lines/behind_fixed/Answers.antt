use Rattle.std.proofs.Common.{◌∙◌, [], ◌∷◌, append_assoc}
use Rattle.abi_inspect.proofs.LineReads.{fixed_more, none_then}
use Rattle.abi_inspect.proofs.lines.behind_fixed.Goals as goal

pub returns-in_err-rest : goal.returns-in_err-rest
returns-in_err-rest c =
    none_then c.from_residual.result _ _ c.from_residual.ensures
    (λ rest e. c.in_err-rest.ensures (10 ∷ rest) (e ∙ append_assoc c.args.line.now (10 ∷ []) rest))

pub returns : goal.returns
returns c = fixed_more c.args.text.now c.args.line.now c.in_ok-rest.rest.now c.behind-2.result c.in_ok-rest.ensures c.behind-2.ensures
