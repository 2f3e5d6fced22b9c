use Rattle.std.specs.Prelude.{option_map}
use Rattle.path_model.specs.Values.{argument_value}
use Rattle.std.proofs.Common.{sym, ◌∙◌, ◌∷◌, ap}
use Rattle.path_model.specs.States.{InBody, sight, at_statement, with_frames}
use Rattle.path_machine.specs.declared.frames.BodyFrame.{BodyFrame}
use Rattle.path_machine.specs.invariants.Steps.{size_in}
use Rattle.path_machine.proofs.Effecting.{function_leaves}
use Rattle.path_machine.proofs.statements.leave.Goals as goal

-- src/statements.rt:126:1
pub returns-in-Function : goal.returns-in-Function
returns-in-Function c = λ e s f below n outs t clear.
    let h = c.args.run.now.world.h.now in
    let sizes = size_in c.args.run.now.sizes.now in
    let program = c.args.run.now.program.now in
    let done = c.leave_function.ensures e s f below t clear in
    function_leaves h sizes program c.leave_function.new.machine (with_frames s (InBody (at_statement f n) ∷ below)) f below (option_map (argument_value (sight s f)) c.args.x.now) outs c.in-Function.field-0 c.leave_function.result (sym t.body_stands.same_owner ∙ (ap (λ (x : BodyFrame). x.owner) (sym c.get.ensures) ∙ c.in-Function.is)) done.0 done.1
