use Rattle.std.proofs.Common.{◌≡◌, ◌<◌, ◌≤◌, ℕ, Some, length, get_or}
use Rattle.std.specs.List.{slice_get}
use Rattle.cxx_overrider.proofs.lasts.note_row.Given as goal

-- the class is noted under the numbers so far
abbrev pub invariant-loop-n : goal.invariant-loop-n
invariant-loop-n l = record {
  size : length l.lasts ≡ length l.fn.lasts;
  kept : (n k : ℕ) → k ≤ l.fn.c → k ≤ get_or l.fn.lasts n 0 → k ≤ get_or l.lasts n 0;
  noted : (i n : ℕ) → i < l.n-index → slice_get l.row i ≡ Some n → n < length l.fn.lasts → l.fn.c ≤ get_or l.lasts n 0;
}
