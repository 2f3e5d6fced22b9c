use Rattle.std.proofs.Common.{sym, ◌∙◌}
use Rattle.abi_print.proofs.TextLemmas.{group_here, group_later, none_left}
use Rattle.abi_print.proofs.table_lines.group_number.Goals as goal

pub loop-number-preserved : goal.loop-number-preserved
loop-number-preserved c =
    sym (group_later c.args.groups.now c.loop-number.number c.index-groups-number.result c.args.word.now c.loop-number-test.true (sym c.is_same.ensures ∙ c.if-is_same.false))
    ∙ c.loop-number.invariant

pub returns-then-is_same : goal.returns-then-is_same
returns-then-is_same c =
    group_here c.args.groups.now c.loop-number.number c.index-groups-number.result c.args.word.now c.loop-number-test.true (sym c.is_same.ensures ∙ c.if-is_same.true)
    ∙ c.loop-number.invariant

pub returns : goal.returns
returns c = none_left c.args.groups.now c.loop-number.number c.args.word.now c.loop-number-test.false ∙ c.loop-number.invariant
