use Rattle.std.proofs.Common.{◌∙◌}
use Rattle.cxx_expression.proofs.Finding.{polymorphic_by}
use Rattle.cxx_expression.proofs.look_up.is_polymorphic.Goals as goal

pub returns-clause-knows : goal.returns-clause-knows
returns-clause-knows c =
    c.in_ok-keep_polymorphic.ensures c.args.h.now
    (polymorphic_by c.args.h.now c.args.c c.as_slice.result.now c.some_virtual-flag.result (c.as_slice.ensures ∙ c.in_ok-parts.ensures.preorder) c.some_virtual-flag.ensures)
    c.requires.knows
