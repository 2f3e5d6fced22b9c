use Rattle.std.proofs.Common.{◌≡◌, take, map}
use Rattle.cxx_hierarchy.specs.Resolved.{class_in, resolved_base}
use Rattle.cxx_hierarchy.proofs.resolution.resolve_bases.Given as goal

abbrev pub invariant-loop-base : goal.invariant-loop-base
invariant-loop-base l = l.out ≡ map (resolved_base (class_in l.table)) (take l.base-index l.base-items)
