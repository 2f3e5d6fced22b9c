use Rattle.std.proofs.Common.{◌≤◌, length, List, None, subst}
use Rattle.std.proofs.lemmas.List.{take_all}
use Rattle.cxx_program.specs.declared.operand.Argument.{Argument}
use Rattle.cxx_program.specs.Typed.{whole}
use Rattle.path_effects.specs.invariants.Arguments.{AreRead}
use Rattle.path_effects.proofs.Reading.{one_more_read}
use Rattle.path_effects.proofs.arguments.argument_values.Goals as goal

pub loop-a-preserved : goal.loop-a-preserved
loop-a-preserved c =
    one_more_read c.args.world.now.h.now c.args.heap.now c.args.scene.now c.args.list.now c.loop-a.values.items c.push.new.self.items c.loop-a.a-index
    c.argument_value.result c.a-item.result c.loop-a-test.true c.a-item.is c.in_ok-push.ensures.items
    (λ e s t stands seen fits clear. c.argument_value.ensures e s None t stands seen (whole c.a-item.result t fits) clear) c.loop-a.invariant

pub returns : goal.returns
returns c =
    let past : length c.args.list.now ≤ c.loop-a.a-index = c.loop-a-test.false in
    subst (λ (done : List Argument). AreRead c.args.world.now.h.now c.args.heap.now c.args.scene.now c.args.list.now done c.loop-a.values.items)
    (take_all c.loop-a.a-index c.args.list.now past) c.loop-a.invariant
