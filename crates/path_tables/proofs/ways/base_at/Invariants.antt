use Rattle.foundation.proofs.Each.{EachBefore}
use Rattle.path_tables.proofs.Paths.{IsOther}
use Rattle.path_tables.proofs.ways.base_at.Given as goal

-- no base so far is the one
abbrev pub invariant-loop-i : goal.invariant-loop-i
invariant-loop-i l = EachBefore (IsOther l.b) l.bases l.i
