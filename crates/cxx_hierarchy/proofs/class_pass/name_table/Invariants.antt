use Rattle.std.proofs.Common.{take}
use Rattle.cxx_hierarchy.specs.ClassPass.{names_of}
use Rattle.cxx_hierarchy.specs.NameTables.{Numbers}
use Rattle.cxx_hierarchy.proofs.class_pass.name_table.Given as goal

abbrev pub invariant-loop-number : goal.invariant-loop-number
invariant-loop-number l = Numbers l.table (names_of (take l.number l.records))
