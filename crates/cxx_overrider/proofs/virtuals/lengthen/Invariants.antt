use Rattle.std.proofs.Common.{◌≡◌, ◌≤◌, ◌-◌, ℕ, false, length}
use Rattle.std.specs.Prelude.{slice_index_or}
use Rattle.cxx_overrider.proofs.virtuals.lengthen.Given as goal

abbrev pub invariant-loop-row : goal.invariant-loop-row
invariant-loop-row l = record {
  short : length l.row ≤ l.count;
  same : (m : ℕ) → slice_index_or l.row m false ≡ slice_index_or l.initial.row m false;
}

abbrev pub decreases-loop-row : goal.decreases-loop-row
decreases-loop-row l = l.count - length l.row
