-- What the row of a class is made by, in the words of the definitions.
use Rattle.std.specs.Prelude.{ℕ, List}
use Rattle.cxx_hierarchy.specs.Classes.{Classes}
use Rattle.cxx_overrider.specs.invariants.Numbers.{IsNumbering}
use Rattle.abi_sound.specs.declared.class_layout.ClassLayout.{ClassLayout}
use Rattle.abi_sound.specs.Places.{Places, places_of}
use Rattle.abi_slots.specs.declared.row_sites.RowSite.{RowSite}
use Rattle.abi_slots.specs.Rows.{AreOwn}

-- the numbers of the signatures
abbrev pub row_numbers : {L : Type 0} → RowSite L → List (List ℕ)
row_numbers site = site.numbering.now.rows.items

-- where the parts of its classes lie
abbrev pub row_places : {L : Type 0} → (L → List ClassLayout) → RowSite L → Places
row_places rows site = places_of site.h.now (rows site.layout.now)

-- all of it belongs to its classes
pub record IsRowSite {L : Type 0} (lays_out : L → Classes → Type 0) (site : RowSite L) : Type 0 where
  pub layout : lays_out site.layout.now site.h.now
  pub numbering : IsNumbering site.h.now (row_numbers site) site.numbering.now.count
  pub own : AreOwn site.h.now site.own.now
