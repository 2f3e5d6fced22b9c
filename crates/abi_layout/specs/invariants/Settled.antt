-- The places of the virtual bases that subobjects hold.
use Rattle.std.specs.Prelude.{◌≡◌, ℕ, ◌+◌, ◌<◌, ◌≤◌, Option, Some, None, List, [], ◌∷◌, map, replicate, length, get_or, slice_get, slice_set}
use Rattle.cxx_hierarchy.specs.declared.records.ClassId.{ClassId}
use Rattle.cxx_hierarchy.specs.Classes.{Classes}
use Rattle.cxx_subobject.specs.declared.Root.{Root}
use Rattle.cxx_subobject.specs.declared.Root.TheVariants.{Whole, Shared}
use Rattle.cxx_subobject.specs.declared.Subobject.{Subobject}
use Rattle.cxx_subobject.specs.Subobjects.{Leads}
use Rattle.abi_sound.specs.declared.class_layout.ClassLayout.{ClassLayout}
use Rattle.abi_layout.specs.Limits.{size_limit}
use Rattle.abi_layout.specs.declared.placed_bases.PlacedBase.{PlacedBase}
use Rattle.abi_layout.specs.declared.placed_bases.PlacedBase.TheVariants.{Own, VirtualBase}
use Rattle.abi_layout.specs.Placements.{nvsize_in}
use Rattle.abi_layout.specs.Layouts.{place_from}

abbrev pub root_by : List ℕ → Root → ℕ
root_by table Whole = 0
root_by table (Shared v) = get_or table v.0 0

-- the place of a subobject, where the table tells the places of the virtual bases by class number
abbrev pub place_by : Classes → List ClassLayout → List ℕ → Subobject → ℕ
place_by h rows table s = root_by table s.root + place_from h rows s.path

-- a path of direct non-virtual bases from one of the first `count` classes
abbrev pub IsPathWithin : Classes → ℕ → List ClassId → Type 0
IsPathWithin h count [] = Unit {0}
IsPathWithin h count (d ∷ path) = (d.0 < count) × Leads h d path

abbrev pub held_at : List Subobject → Option ℕ → Option Subobject
held_at list None = None
held_at list (Some n) = slice_get list n

-- the table with the place of a virtual base that is held: that of its holder
abbrev pub with_place : Classes → List ClassLayout → List ℕ → ℕ → Option Subobject → List ℕ
with_place h rows table v None = table
with_place h rows table v (Some t) = slice_set table v (place_by h rows table t)

-- each class, without its virtual bases, ends within the limit of sizes where it lies by the table
pub record EndsWithinLimit (rows : List ClassLayout) (table : List ℕ) : Type 0 where
  pub each : (v : ℕ) → get_or table v 0 + nvsize_in (slice_get rows v) ≤ size_limit

-- holders lie in the rows, a holder in a virtual base holds one of a smaller number, and what it holds ends within the
-- limit where the virtual bases do
pub record CanSettle (h : Classes) (rows : List ClassLayout) (list : List Subobject) (holders : List (Option ℕ)) : Type 0 where
  pub below : (v n : ℕ) → get_or holders v None ≡ Some n → n < length list
  pub paths : (v : ℕ) (t : Subobject) → held_at list (get_or holders v None) ≡ Some t → IsPathWithin h (length rows) t.path
  pub rises : (v : ℕ) (t : Subobject) (w : ClassId) → held_at list (get_or holders v None) ≡ Some t → t.root ≡ Shared w → v < w.0
  pub roomy : (v : ℕ) (t : Subobject) (table : List ℕ) → held_at list (get_or holders v None) ≡ Some t → EndsWithinLimit rows table → place_by h rows table t + nvsize_in (slice_get rows v) ≤ size_limit

-- each virtual base that is held lies where its holder does, and each other one where it lay
pub record AreSettled (h : Classes) (rows : List ClassLayout) (list : List Subobject) (holders : List (Option ℕ)) (old new : List ℕ) : Type 0 where
  pub one_each : length new ≡ length old
  pub held : (v : ℕ) (t : Subobject) → v < length old → held_at list (get_or holders v None) ≡ Some t → get_or new v 0 ≡ place_by h rows new t
  pub kept : (v : ℕ) → held_at list (get_or holders v None) ≡ None → get_or new v 0 ≡ get_or old v 0
  pub room : EndsWithinLimit rows new

-- the table with the places of virtual bases that no subobject holds
abbrev pub with_free : List ℕ → PlacedBase → ℕ → List ℕ
with_free table (Own b) place = table
with_free table (VirtualBase v) place = slice_set table v.0 place

abbrev pub with_frees : List ℕ → List PlacedBase → List ℕ → List ℕ
with_frees table [] places = table
with_frees table (base ∷ free) [] = table
with_frees table (base ∷ free) (place ∷ places) = with_frees (with_free table base place) free places

-- where no virtual base lies yet but those that no subobject holds
abbrev pub free_table : ℕ → List PlacedBase → List ℕ → List ℕ
free_table count free places = with_frees (replicate count 0) free places

-- the places of the virtual bases, by a table in which those that are held lie where their holders do
pub record AreVirtualPlaces (h : Classes) (rows : List ClassLayout) (list : List Subobject) (holders : List (Option ℕ)) (old : List ℕ) (virtuals : List ClassId) (places : List ℕ) : Type 0 where
  pub table : List ℕ
  pub settled : AreSettled h rows list holders old table
  pub are : places ≡ map (λ (v : ClassId). get_or table v.0 0) virtuals
