use Rattle.std.proofs.Common.{◌≡◌}
use Rattle.cxx_hierarchy.specs.Classes.{functions_of}
use Rattle.cxx_overrider.specs.Faults.{spot, function_part}
use Rattle.cxx_overrider.specs.invariants.Pass.{IsFineTo}
use Rattle.cxx_overrider.proofs.pass.check_returns.Given as goal

-- no condition refuses before the function
abbrev pub invariant-loop-index : goal.invariant-loop-index
invariant-loop-index l = record {
  items : l.functions ≡ functions_of l.h l.fn.c;
  fine : IsFineTo l.h (spot l.fn.c function_part l.index 0);
}
