use Rattle.std.proofs.Common.{◌≡◌, ◌++◌, drop, map}
use Rattle.cxx_hierarchy.specs.declared.records.ClassId.{ClassId}
use Rattle.cxx_hierarchy.specs.declared.records.Param.{Param}
use Rattle.cxx_resolve.specs.Programs.{entries_from}
use Rattle.cxx_resolve.proofs.bodies.first_draft.Given as goal

-- those so far and those that are left are all
abbrev pub invariant-loop-number : goal.invariant-loop-number
invariant-loop-number l = record {
  entries : l.entries ++ entries_from l.number (drop l.number l.params) ≡ entries_from 0 l.params;
  types : l.types ++ map (λ (p : Param ClassId). p.ty) (drop l.number l.params) ≡ map (λ (p : Param ClassId). p.ty) l.params;
}
