use Rattle.std.proofs.Common.{◌≡◌, take, map}
use Rattle.cxx_hierarchy.specs.Resolved.{class_in, resolved_param}
use Rattle.cxx_hierarchy.proofs.resolution.resolve_params.Given as goal

abbrev pub invariant-loop-param : goal.invariant-loop-param
invariant-loop-param l = l.out ≡ map (resolved_param (class_in l.table)) (take l.param-index l.param-items)
