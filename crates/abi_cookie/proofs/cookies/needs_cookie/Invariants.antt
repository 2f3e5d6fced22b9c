use Rattle.std.proofs.Common.{◌≡◌, length}
use Rattle.abi_cookie.specs.invariants.Marks.{AreMarked}
use Rattle.abi_cookie.proofs.cookies.needs_cookie.Given as goal

-- the classes so far are marked
abbrev pub invariant-loop-number : goal.invariant-loop-number
invariant-loop-number l = record {
  size : length l.marks ≡ 1024;
  marked : AreMarked l.h l.marks l.number;
}
