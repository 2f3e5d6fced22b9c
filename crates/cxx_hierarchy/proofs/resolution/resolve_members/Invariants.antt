use Rattle.std.proofs.Common.{◌≡◌, take, map}
use Rattle.cxx_hierarchy.specs.Resolved.{class_in, resolved_member}
use Rattle.cxx_hierarchy.proofs.resolution.resolve_members.Given as goal

abbrev pub invariant-loop-member : goal.invariant-loop-member
invariant-loop-member l = l.out ≡ map (resolved_member (class_in l.table)) (take l.member-index l.member-items)
