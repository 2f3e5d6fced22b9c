use Rattle.std.proofs.Common.{sym, ◌∙◌}
use Rattle.abi_print.proofs.TextLemmas.{same_name}
use Rattle.abi_print.proofs.table_lines.is_same_name.Goals as goal

pub returns-then-one-other : goal.returns-then-one-other
returns-then-one-other c = λ e. same_name c.args.one.now c.args.other.now c.if-one-other.true (sym c.is_same.ensures ∙ e)
