use Rattle.std.proofs.Common.{◌≡◌, map, take}
use Rattle.abi_foreign.specs.declared.said.MemberPlace.{MemberPlace}
use Rattle.abi_foreign.proofs.row.member_places.Given as goal

-- the places of the members so far
abbrev pub invariant-loop-at : goal.invariant-loop-at
invariant-loop-at l = l.places ≡ map (λ (at : MemberPlace). at.place) (take l.at-index l.members)
