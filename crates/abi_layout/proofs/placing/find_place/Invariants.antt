use Rattle.std.proofs.Common.{◌≡◌, ℕ, ◌+◌, ◌-◌, ◌≤◌, false}
use Rattle.abi_emptybase.specs.Table.{has_conflict}
use Rattle.abi_layout.specs.Limits.{size_limit}
use Rattle.abi_layout.specs.Placements.{IsCandidatePlace}
use Rattle.abi_sound.specs.Sound.{Divides}
use Rattle.abi_layout.proofs.placing.find_place.Given as goal

-- the place is a multiple of the alignment behind the data, and no candidate before it is free
abbrev pub invariant-loop-at : goal.invariant-loop-at
invariant-loop-at l = record {
  behind : l.placing.stage.dsize ≤ l.at;
  multiple : Divides l.component.align l.at;
  least : (other : ℕ) → IsCandidatePlace l.placing.stage l.component other → has_conflict l.placing.stage.parts l.component.parts other ≡ false → l.at ≤ other;
}

abbrev pub decreases-loop-at : goal.decreases-loop-at
decreases-loop-at l = size_limit + 1 - l.at
