use Rattle.std.proofs.Common.{◌≡◌, ◌≤◌, take}
use Rattle.abi_foreign.specs.invariants.Pieces.{read_on}
use Rattle.abi_foreign.proofs.pieces.value_of.Given as goal

-- the number that the digits so far say
abbrev pub invariant-loop-d : goal.invariant-loop-d
invariant-loop-d l = (l.value ≡ read_on 0 (take l.d-index l.digits)) × (l.value ≤ 1048579)
