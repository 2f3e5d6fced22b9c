use Rattle.std.proofs.Common.{◌≡◌, ◌<◌, ◌≤◌, ◌||◌, ℕ, false, length, get_or}
use Rattle.cxx_hierarchy.proofs.virtual_rows.merge.Given as goal

-- the marks of the places so far were made; the others are as they were
abbrev pub invariant-loop-v : goal.invariant-loop-v
invariant-loop-v l = record {
  size : length l.row ≡ length l.fn.row;
  done : (v : ℕ) → v < l.v → get_or l.row v false ≡ (get_or l.fn.row v false || get_or l.other v false);
  rest : (v : ℕ) → l.v ≤ v → get_or l.row v false ≡ get_or l.fn.row v false;
}
