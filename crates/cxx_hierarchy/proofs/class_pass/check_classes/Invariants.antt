use Rattle.cxx_hierarchy.specs.ClassPass.{class_faults, names_of}
use Rattle.cxx_hierarchy.proofs.Faults.{NoneBefore}
use Rattle.cxx_hierarchy.proofs.class_pass.check_classes.Given as goal

abbrev pub invariant-loop-earlier : goal.invariant-loop-earlier
invariant-loop-earlier l = NoneBefore (class_faults (names_of l.records)) l.records l.earlier
