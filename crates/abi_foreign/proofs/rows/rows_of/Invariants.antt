use Rattle.std.proofs.Common.{◌≡◌}
use Rattle.abi_foreign.specs.Listings.{cut_rows}
use Rattle.abi_foreign.specs.invariants.Rows.{exact_rows}
use Rattle.abi_foreign.proofs.rows.rows_of.Given as goal

-- the rows of the classes so far
abbrev pub invariant-loop-n : goal.invariant-loop-n
invariant-loop-n l = l.rows.items ≡ cut_rows (exact_rows l.h l.saids l.n)
