use Rattle.std.proofs.Common.{◌∙◌, ◌++◌, List, ap}
use Rattle.std.specs.List.{flat_map}
use Rattle.cxx_program.specs.declared.operand.Argument.{Argument}
use Rattle.path_model.specs.Values.{value_of_operand}
use Rattle.path_model.specs.Uses.{arrow, argument_uses}
use Rattle.path_model.specs.Rules.{refused}
use Rattle.path_refusals.specs.invariants.Pieces.{way_asked}
use Rattle.path_refusals.proofs.Refused.{joined}
use Rattle.path_refusals.proofs.Givens.{operand_value}
use Rattle.path_refusals.proofs.Calling.{call_is, call_found}
use Rattle.path_refusals.proofs.calls.call.Goals as goal

pub returns-clause-is : goal.returns-clause-is
returns-clause-is c = λ e s f a is.
    let x = value_of_operand s c.args.call.now.pointer in
    let v = operand_value c.args.moment.now.world.h.now c.args.moment.now.heap.now c.args.scene.now e s a c.args.call.now.pointer c.args.call.now.class is.pointer c.value-v.result (c.value-v.ensures c.args.moment.now.world.h.now c.args.moment.now.heap.now s a.stands) in
    joined c.args.moment.now.world.h.now s.objects (arrow x ++ way_asked c.args.call.now x) (flat_map (argument_uses s) c.args.call.now.arguments) c.in_ok-to.to c.in_ok-with.with c.least.result c.least.ensures
    (c.in_ok-to.ensures.is s.objects x is.through v is.way (call_found c.args.moment.now.world.h.now e c.args.call.now f is))
    (c.in_ok-with.ensures.is s a.stands ∙ ap (λ (xs : List Argument). refused c.args.moment.now.world.h.now s.objects (flat_map (argument_uses s) xs)) c.as_slice.ensures)
    ∙ call_is c.args.moment.now.world.h.now s c.args.call.now
