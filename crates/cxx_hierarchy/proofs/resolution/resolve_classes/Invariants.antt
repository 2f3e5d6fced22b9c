use Rattle.std.proofs.Common.{◌≡◌, take, map}
use Rattle.cxx_hierarchy.specs.Resolved.{class_in, resolved_class}
use Rattle.cxx_hierarchy.proofs.resolution.resolve_classes.Given as goal

abbrev pub invariant-loop-class : goal.invariant-loop-class
invariant-loop-class l = l.out.items ≡ map (resolved_class (class_in l.table)) (take l.class-index l.records)
