use Rattle.std.proofs.Common.{length}
use Rattle.worked_cases.proofs.main.Given as goal

-- the bytes of the cases that are left
abbrev pub decreases-loop-rest : goal.decreases-loop-rest
decreases-loop-rest l = length l.rest
