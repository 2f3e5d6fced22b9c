use Rattle.std.proofs.Common.{◌≡◌, length}
use Rattle.worked_cases.proofs.other_calls.primaries_of.Given as goal

-- both lists tell of the classes so far
abbrev pub invariant-loop-n : goal.invariant-loop-n
invariant-loop-n l = record { nearly : length l.nearly.items ≡ l.n; primaries : length l.primaries.items ≡ l.n }
