use Rattle.std.proofs.Common.{◌-◌, length}
use Rattle.cxxabi_input.proofs.Cuts.{IsLeft}
use Rattle.cxxabi_input.proofs.division.divide.Given as goal

abbrev pub invariant-loop-rest : goal.invariant-loop-rest
invariant-loop-rest l = IsLeft l.input l.at

abbrev pub decreases-loop-rest : goal.decreases-loop-rest
decreases-loop-rest l = length l.input - l.at
