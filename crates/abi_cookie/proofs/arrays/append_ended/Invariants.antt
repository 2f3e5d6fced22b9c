use Rattle.std.proofs.Common.{◌≡◌, ◌++◌}
use Rattle.std.specs.Prelude.{reverse}
use Rattle.abi_cookie.specs.Arrays.{elements}
use Rattle.abi_cookie.proofs.arrays.append_ended.Given as goal

-- the elements that are left make the whole list
abbrev pub invariant-loop-i : goal.invariant-loop-i
invariant-loop-i l = l.ended ++ reverse (elements l.first l.size l.i) ≡ l.fn.ended ++ reverse (elements l.first l.size l.count)
