use Rattle.std.proofs.Common.{◌≡◌, map, take}
use Rattle.path_machine.specs.invariants.Starts.{start_code}
use Rattle.path_machine.proofs.starting.first_values.Given as goal

-- the values of those so far
abbrev pub invariant-loop-ty : goal.invariant-loop-ty
invariant-loop-ty l = l.values.items ≡ map start_code (take l.ty-index l.types)
