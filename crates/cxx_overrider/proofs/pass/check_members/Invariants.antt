use Rattle.std.proofs.Common.{◌≡◌}
use Rattle.cxx_hierarchy.specs.Classes.{members_of}
use Rattle.cxx_overrider.specs.Faults.{spot, member_part}
use Rattle.cxx_overrider.specs.invariants.Pass.{IsFineTo}
use Rattle.cxx_overrider.proofs.pass.check_members.Given as goal

-- no condition refuses before the member
abbrev pub invariant-loop-member : goal.invariant-loop-member
invariant-loop-member l = record {
  items : l.members ≡ members_of l.h l.fn.c;
  fine : IsFineTo l.h (spot l.fn.c member_part l.member-index 0);
}
