use Rattle.std.proofs.Common.{take}
use Rattle.cxx_hierarchy.specs.ClassPass.{part_faults, names_of, names_taken}
use Rattle.cxx_hierarchy.specs.NameTables.{HoldsNames}
use Rattle.cxx_hierarchy.proofs.Faults.{NoneBefore}
use Rattle.cxx_hierarchy.proofs.class_pass.check_parts.Given as goal

abbrev pub invariant-loop-number : goal.invariant-loop-number
invariant-loop-number l = record {
  checked : NoneBefore (part_faults (names_of l.scope.records.now) (names_of (take l.scope.earlier l.scope.records.now)) l.definition) l.order l.number;
  taken : HoldsNames l.taken (names_taken l.definition (take l.number l.order));
}
