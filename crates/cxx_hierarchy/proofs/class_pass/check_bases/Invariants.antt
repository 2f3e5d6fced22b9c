use Rattle.std.specs.Prelude.{take}
use Rattle.cxx_hierarchy.specs.ClassPass.{base_faults, names_of}
use Rattle.cxx_hierarchy.proofs.Faults.{NoneBefore}
use Rattle.cxx_hierarchy.proofs.class_pass.check_bases.Given as goal

abbrev pub invariant-loop-number : goal.invariant-loop-number
invariant-loop-number l = NoneBefore (base_faults (names_of l.scope.records.now) (names_of (take l.scope.earlier l.scope.records.now))) l.bases l.number
