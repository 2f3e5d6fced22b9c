-- The tables of a hierarchy in which each virtual function has one final overrider in each subobject.
use Rattle.std.specs.Prelude.{◌≡◌, length}
use Rattle.cxx_hierarchy.specs.Classes.{Classes}
use Rattle.cxx_overrider.specs.declared.pass.Overriders.{Overriders}
use Rattle.cxx_overrider.specs.invariants.Settling.{IsMade}
use Rattle.cxx_overrider.specs.invariants.Tables.{AreTables}
use Rattle.cxx_overrider.specs.Faults.{HasNoFault}
use Rattle.cxx_overrider.specs.invariants.Pass.{TellsAbstract}

pub record AreOverriders (h : Classes) (o : Overriders) : Type 0 where
  pub tables : AreTables h o.tables
  pub made : IsMade h o.tables.numbering.rows.items o.entries (length h) 0 0
  pub abstracts : TellsAbstract h o.abstracts.items
  pub all_abstracts : length o.abstracts.items ≡ length h
  pub fine : HasNoFault h
