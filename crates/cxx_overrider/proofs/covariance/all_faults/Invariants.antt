use Rattle.std.proofs.Common.{◌<◌}
use Rattle.cxx_overrider.specs.invariants.ReturnFlags.{AreFaults}
use Rattle.cxx_overrider.proofs.covariance.all_faults.Given as goal

-- the flags of the classes so far
abbrev pub invariant-loop-number : goal.invariant-loop-number
invariant-loop-number l = AreFaults l.h l.fn.f (λ x. x.0 < l.number) l.faults
