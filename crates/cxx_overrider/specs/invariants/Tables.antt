-- What is known of all classes before the pass.
use Rattle.std.specs.Prelude.{◌≡◌, ◌<◌, false, length}
use Rattle.cxx_hierarchy.specs.Classes.{Classes}
use Rattle.cxx_subobject.specs.VirtualFlags.{TellsVirtualBases}
use Rattle.cxx_overrider.specs.declared.tables.Tables.{Tables}
use Rattle.cxx_overrider.specs.declared.FunctionId.{FunctionId}
use Rattle.cxx_overrider.specs.Functions.{is_pure}
use Rattle.cxx_overrider.specs.Overriding.{HasVirtual}
use Rattle.cxx_overrider.specs.invariants.Numbers.{IsNumbering}
use Rattle.cxx_overrider.specs.invariants.Kinds.{AreKinds}
use Rattle.cxx_overrider.specs.invariants.Lasts.{AreLasts}
use Rattle.cxx_overrider.specs.invariants.Marks.{AreMarks}
use Rattle.cxx_overrider.specs.invariants.Pure.{LeavesPure}
use Rattle.cxx_overrider.specs.invariants.Within.{AreWithin}

-- the tables are those of the hierarchy
pub record AreTables (h : Classes) (tables : Tables) : Type 0 where
  pub numbering : IsNumbering h tables.numbering.rows.items tables.numbering.count
  pub lasts : AreLasts tables.numbering.rows.items tables.lasts.items
  pub kinds : AreKinds h tables.kinds.items
  pub all_kinds : length tables.kinds.items ≡ length h
  pub virtuals : AreMarks h tables.numbering.rows.items (HasVirtual h) tables.virtuals.items
  pub all_virtuals : length tables.virtuals.items ≡ length h
  pub pure : AreMarks h tables.numbering.rows.items (LeavesPure h) tables.pure.items
  pub all_pure : length tables.pure.items ≡ length h
  pub within : AreWithin h tables.numbering.rows.items tables.numbering.count tables.within.items
  pub all_within : length tables.within.items ≡ length h
  pub with_virtual : TellsVirtualBases h tables.with_virtual.items
  pub all_with_virtual : length tables.with_virtual.items ≡ length h
  pub none_pure : tables.has_pure ≡ false → (f : FunctionId) → f.class.0 < length h → is_pure h f ≡ false
