use Rattle.std.proofs.Common.{◌<◌, None}
use Rattle.cxx_hierarchy.specs.declared.records.ClassId.{ClassId}
use Rattle.path_places.specs.invariants.Kids.{IsSharedRest}
use Rattle.path_places.proofs.kids.shared_kid.Given as goal

-- no class so far is a virtual base that holds the number
abbrev pub invariant-loop-v : goal.invariant-loop-v
invariant-loop-v l = (v : ClassId) → v.0 < l.v → IsSharedRest l.world.h.now l.c l.n v None
