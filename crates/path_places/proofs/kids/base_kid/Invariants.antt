use Rattle.std.proofs.Common.{None}
use Rattle.cxx_hierarchy.specs.declared.records.ClassId.{ClassId}
use Rattle.cxx_hierarchy.specs.declared.records.Base.{Base}
use Rattle.path_places.specs.invariants.Kids.{IsBaseRest}
use Rattle.path_places.proofs.Holding.{NoneTo}
use Rattle.path_places.proofs.kids.base_kid.Given as goal

-- no base so far holds the number
abbrev pub invariant-loop-i : goal.invariant-loop-i
invariant-loop-i l = NoneTo (λ i (b : Base ClassId). IsBaseRest l.world.h.now l.c l.n i b None) l.bases l.i
