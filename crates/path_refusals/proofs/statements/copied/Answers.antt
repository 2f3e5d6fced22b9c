use Rattle.std.proofs.Common.{◌∙◌, ◌++◌, ap}
use Rattle.cxx_search.specs.Searches.{has_virtual_base}
use Rattle.path_model.specs.Values.{value_of_operand}
use Rattle.path_model.specs.Uses.{arrow, uses_of_view}
use Rattle.path_model.specs.Rules.{refused}
use Rattle.path_model.specs.Order.{asked_covered}
use Rattle.path_refusals.proofs.Refused.{joined}
use Rattle.path_refusals.proofs.Givens.{operand_value}
use Rattle.path_refusals.proofs.Staging.{copy_is}
use Rattle.path_refusals.proofs.statements.copied.Goals as goal

pub returns-clause-is : goal.returns-clause-is
returns-clause-is c = λ e s w a has_to has_from.
    let k = c.args.c in let n = has_virtual_base c.args.moment.now.world.h.now k in
    let x = value_of_operand s c.args.to.now in let y = value_of_operand s c.args.from.now in
    let v = operand_value c.args.moment.now.world.h.now c.args.moment.now.heap.now c.args.scene.now e s a c.args.to.now k has_to c.value-v.result (c.value-v.ensures c.args.moment.now.world.h.now c.args.moment.now.heap.now s a.stands) in
    let u = operand_value c.args.moment.now.world.h.now c.args.moment.now.heap.now c.args.scene.now e s a c.args.from.now k has_from c.value-u.result (c.value-u.ensures c.args.moment.now.world.h.now c.args.moment.now.heap.now s a.stands) in
    joined c.args.moment.now.world.h.now s.objects (arrow x ++ (uses_of_view n x ++ asked_covered c.args.moment.now.world.h.now k x)) (arrow y ++ (uses_of_view n y ++ asked_covered c.args.moment.now.world.h.now k y)) c.in_ok-left.left c.in_ok-right.right c.least.result c.least.ensures
    (c.in_ok-left.ensures.is s.objects x v ∙ ap (λ b. refused c.args.moment.now.world.h.now s.objects (arrow x ++ (uses_of_view b x ++ asked_covered c.args.moment.now.world.h.now k x))) c.has_virtual_base-needed.ensures)
    (c.in_ok-right.ensures.is s.objects y u ∙ ap (λ b. refused c.args.moment.now.world.h.now s.objects (arrow y ++ (uses_of_view b y ++ asked_covered c.args.moment.now.world.h.now k y))) c.has_virtual_base-needed.ensures)
    ∙ copy_is c.args.moment.now.world.h.now c.requires.world.hierarchy s w c.args.to.now c.args.from.now k a.seen.settled v.of_class u.of_class
