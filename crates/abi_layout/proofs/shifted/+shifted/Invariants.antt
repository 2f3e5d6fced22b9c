use Rattle.std.proofs.Common.{◌+◌, ◌*◌}
use Rattle.abi_primary.proofs.Nth.{EachNth}
use Rattle.abi_layout.proofs.algorithm.NextShifted.{IsStayed}
use Rattle.abi_layout.proofs.shifted.+shifted.Given as goal

abbrev pub decreases-is_base_shifted : goal.decreases-is_base_shifted
decreases-is_base_shifted l = 2 * l.d.0

abbrev pub decreases-has_shifted : goal.decreases-has_shifted
decreases-has_shifted l = 2 * l.d.0 + 1

abbrev pub invariant-has_shifted-loop-base : goal.invariant-has_shifted-loop-base
invariant-has_shifted-loop-base l = EachNth (IsStayed l.h l.rows l.known l.d l.is_moved) l.base-items l.base-index
