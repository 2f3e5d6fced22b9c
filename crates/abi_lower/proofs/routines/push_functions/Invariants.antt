use Rattle.std.proofs.Common.{◌≡◌, ◌++◌, drop}
use Rattle.std.specs.List.{flat_map}
use Rattle.cxx_program.specs.declared.program.TypedBody.{TypedBody}
use Rattle.abi_lower.specs.invariants.Numbers.{owned_routines}
use Rattle.abi_lower.specs.invariants.Codes.{routines_from}
use Rattle.abi_lower.proofs.routines.push_functions.Given as goal

abbrev pub invariant-loop-body : goal.invariant-loop-body
invariant-loop-body l =
    routines_from l.list ++ flat_map (λ (body : TypedBody). owned_routines body.owner) (drop l.body-index l.bodies)
    ≡ routines_from l.initial.list ++ flat_map (λ (body : TypedBody). owned_routines body.owner) l.bodies
