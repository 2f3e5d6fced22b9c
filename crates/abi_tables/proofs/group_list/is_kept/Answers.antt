use Rattle.std.proofs.Common.{sym, ◌∙◌, arith}
use Rattle.abi_tables.proofs.Steps.{is_view_of}
use Rattle.abi_tables.proofs.group_list.is_kept.Goals as goal

pub returns : goal.returns
returns c = λ e. is_view_of c.args.views.now c.args.number c.args.name.now c.view_at-x.result.now (let t = c.if-number-count.false in omega arith) c.view_at-x.ensures (let t = c.if-x-name.false in omega arith) (sym c.is_same.ensures ∙ e)
