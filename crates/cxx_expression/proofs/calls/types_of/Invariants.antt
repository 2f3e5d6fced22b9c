use Rattle.std.proofs.Common.{◌≡◌, take}
use Rattle.cxx_expression.specs.Calls.{types_of}
use Rattle.cxx_expression.proofs.calls.types_of.Given as goal

-- the types of the parameters so far
abbrev pub invariant-loop-param : goal.invariant-loop-param
invariant-loop-param l = l.types ≡ types_of (take l.param-index l.params)
