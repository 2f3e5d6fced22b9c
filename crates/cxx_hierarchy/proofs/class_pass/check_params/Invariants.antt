use Rattle.cxx_hierarchy.specs.ClassPass.{param_faults, names_of}
use Rattle.cxx_hierarchy.proofs.Faults.{NoneBefore}
use Rattle.cxx_hierarchy.proofs.class_pass.check_params.Given as goal

abbrev pub invariant-loop-number : goal.invariant-loop-number
invariant-loop-number l = NoneBefore (param_faults (names_of l.scope.records.now)) l.params l.number
