use Rattle.std.proofs.Common.{◌≡◌, List, ◌++◌, ap, ◌∙◌}
use Rattle.std.specs.List.{flat_map}
use Rattle.cxx_program.specs.declared.program.TypedBody.{TypedBody}
use Rattle.code_ops.specs.Setups.{Routine}
use Rattle.abi_lower.specs.invariants.Numbers.{main_routines, owned_routines}
use Rattle.abi_lower.specs.declared.routines.Routine.{Routine as RoutineCode}
use Rattle.abi_lower.specs.invariants.Codes.{routines_from}
use Rattle.abi_lower.proofs.routines.list_plain.Goals as goal

pub returns : goal.returns
returns c =
    let main : routines_from c.push_main.new.list ≡ main_routines c.args.program.now.main = c.in_ok-push_main.ensures ∙ ap (λ (l : List RoutineCode). routines_from l ++ main_routines c.args.program.now.main) c.new-list.ensures in
    let functions = flat_map (λ (body : TypedBody). owned_routines body.owner) c.args.program.now.bodies in
    let both : routines_from c.push_functions.new.list ≡ routines_from c.push_main.new.list ++ functions =
    c.in_ok-push_functions.ensures ∙ ap (λ (l : List TypedBody). routines_from c.push_main.new.list ++ flat_map (λ (body : TypedBody). owned_routines body.owner) l) c.as_slice.ensures in
    both ∙ ap (λ (l : List Routine). l ++ functions) main
