use Rattle.abi_primary.proofs.Nth.{EachNth}
use Rattle.abi_judge.proofs.Named.{IsOther}
use Rattle.abi_judge.proofs.judge.has_direct_base.Given as goal

-- no base so far is that one
abbrev pub invariant-loop-base : goal.invariant-loop-base
invariant-loop-base l = EachNth (IsOther l.b) l.base-items l.base-index
