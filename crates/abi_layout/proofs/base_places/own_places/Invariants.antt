use Rattle.std.proofs.Common.{◌≡◌, take}
use Rattle.abi_layout.specs.invariants.OwnPlaces.{own_places}
use Rattle.abi_layout.proofs.base_places.own_places.Given as goal

-- the places of the bases so far
abbrev pub invariant-loop-base : goal.invariant-loop-base
invariant-loop-base l = l.list ≡ own_places l.front l.places (take l.base-index l.bases)
