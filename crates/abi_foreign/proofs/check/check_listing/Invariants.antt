use Rattle.abi_foreign.specs.invariants.Judged.{AreGood}
use Rattle.abi_foreign.proofs.check.check_listing.Given as goal

-- the classes so far break no rule
abbrev pub invariant-loop-n : goal.invariant-loop-n
invariant-loop-n l = AreGood l.h l.rows.items l.saids l.n
