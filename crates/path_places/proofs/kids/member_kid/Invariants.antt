use Rattle.std.proofs.Common.{None}
use Rattle.cxx_hierarchy.specs.declared.records.ClassId.{ClassId}
use Rattle.cxx_hierarchy.specs.declared.records.Member.{Member}
use Rattle.path_places.specs.invariants.Kids.{IsMemberRest}
use Rattle.path_places.proofs.Holding.{NoneTo}
use Rattle.path_places.proofs.kids.member_kid.Given as goal

-- no member so far holds the number
abbrev pub invariant-loop-m : goal.invariant-loop-m
invariant-loop-m l = NoneTo (λ m (x : Member ClassId). IsMemberRest l.world.h.now l.c l.n m x None) l.members l.m
