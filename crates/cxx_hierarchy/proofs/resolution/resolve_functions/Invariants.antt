use Rattle.std.proofs.Common.{◌≡◌, take, map}
use Rattle.cxx_hierarchy.specs.Resolved.{class_in, resolved_function}
use Rattle.cxx_hierarchy.proofs.resolution.resolve_functions.Given as goal

abbrev pub invariant-loop-function : goal.invariant-loop-function
invariant-loop-function l = l.out ≡ map (resolved_function (class_in l.table)) (take l.function-index l.function-items)
