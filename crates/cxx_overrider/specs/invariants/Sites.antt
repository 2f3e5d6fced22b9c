-- A class of a hierarchy whose tables are made, and how far the entries of its virtual bases are.
use Rattle.std.specs.Prelude.{◌+◌, ◌<◌, ℕ, List, length}
use Rattle.cxx_hierarchy.specs.declared.records.ClassId.{ClassId}
use Rattle.cxx_hierarchy.specs.VirtualBases.{HasVirtualBase}
use Rattle.cxx_overrider.specs.declared.entries.EntryTable.{EntryTable}
use Rattle.cxx_overrider.specs.declared.sites.ClassSite.{ClassSite}
use Rattle.cxx_overrider.specs.Functions.{Signature}
use Rattle.cxx_overrider.specs.invariants.Numbers.{IsNumberOf}
use Rattle.cxx_overrider.specs.invariants.Within.{HasVirtualWithin}
use Rattle.cxx_overrider.specs.invariants.Settling.{IsMade}
use Rattle.cxx_overrider.specs.invariants.Tables.{AreTables}

abbrev pub numbers_at : ClassSite → List (List ℕ)
numbers_at site = site.tables.now.numbering.rows.items

-- the hierarchy has the class, and the tables are its
pub record IsClassSite (site : ClassSite) : Type 0 where
  pub known : site.c.0 < length site.h.now
  pub tables : AreTables site.h.now site.tables.now

-- the entries are made up to a number in a virtual base of the class
abbrev pub IsMadeAt : ClassSite → EntryTable → (v n : ℕ) → Type 0
IsMadeAt site entries v n = IsMade site.h.now (numbers_at site) entries site.c.0 v n

-- those of the class and of all before it are made
abbrev pub IsMadeThrough : ClassSite → EntryTable → Type 0
IsMadeThrough site entries = IsMade site.h.now (numbers_at site) entries (site.c.0 + 1) 0 0

-- those of all classes are made
abbrev pub IsMadeToEnd : ClassSite → EntryTable → Type 0
IsMadeToEnd site entries = IsMade site.h.now (numbers_at site) entries (length site.h.now) 0 0

-- the number is that of a virtual function which the non-virtual part of a virtual base declares
pub record IsVirtualAt (site : ClassSite) (v : ClassId) (n : ℕ) : Type 0 where
  pub base : HasVirtualBase site.h.now site.c v
  pub number : n < site.tables.now.numbering.count
  pub within : (s : Signature) → IsNumberOf site.h.now (numbers_at site) n s → HasVirtualWithin site.h.now v s
