use Rattle.std.specs.Prelude.{option_map}
use Rattle.path_model.specs.Values.{argument_value}
use Rattle.std.proofs.Common.{refl, subst, sym, Some}
use Rattle.cxx_program.specs.declared.statement.TypedKind.TheVariants.{Return}
use Rattle.path_model.specs.States.{sight, with_frames}
use Rattle.path_model.specs.Effects.{result_given}
use Rattle.path_machine.specs.Machines.{MachineStands}
use Rattle.path_machine.specs.invariants.Steps.{size_in, IsClear}
use Rattle.path_machine.proofs.Effecting.{gives}
use Rattle.path_machine.proofs.statements.leave_function.Goals as goal

-- src/statements.rt:143:1
pub returns-in-Some : goal.returns-in-Some
returns-in-Some c = λ e s f below t clear.
    let h = c.args.run.now.world.h.now in
    let sizes = size_in c.args.run.now.sizes.now in
    let program = c.args.run.now.program.now in
    let see = sight s f in
    let a = c.in-Some.a in
    let within : IsClear h e s f (Return (Some a)) = subst (λ o. IsClear h e s f (Return o)) c.in-Some.is clear in
    let g = gives h e (Return (Some a)) within.given.typed a refl in
    (refl, subst (λ o. MachineStands h sizes program c.give_result.new.machine (result_given (with_frames s below) f.found f.target (option_map (argument_value see) o))) (sym c.in-Some.is) (c.give_result.ensures e s f below g.type t within g.returns g.argument))
