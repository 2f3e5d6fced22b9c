use Rattle.std.proofs.Common.{◌≡◌, take}
use Rattle.std.specs.List.{sum_by}
use Rattle.abi_sound.specs.Places.{places_of}
use Rattle.abi_tables.specs.invariants.Weights.{cut, number_by_class, side}
use Rattle.abi_tables.proofs.numbers.side_sum.Given as goal

abbrev pub invariant-loop-base : goal.invariant-loop-base
invariant-loop-base g l = l.sum ≡ cut (sum_by (side (places_of l.h (g.L.SoundLayout.rows l.layout)) (number_by_class l.heads) l.k) (take l.base-index l.bases))
