-- Places of numbers in lists, and how far bases stand behind a part, where they are there.
use Rattle.std.specs.Prelude.{◌≡◌, ℕ, ◌<◌, false, Option, Some, None, List, length, get_or}
use Rattle.cxx_hierarchy.specs.declared.records.ClassId.{ClassId}
use Rattle.cxx_hierarchy.specs.Classes.{Classes}
use Rattle.cxx_hierarchy.specs.VirtualBases.{IsDirectBase}
use Rattle.cxx_subobject.specs.Subobjects.{Leads}
use Rattle.path_numbers.specs.Numbers.{base_number, path_number}

-- the number stands there; None: nowhere
abbrev pub IsPlaceOfNumber : List ℕ → ℕ → Option ℕ → Type 0
IsPlaceOfNumber numbers x None = (j : ℕ) → j < length numbers → get_or numbers j 0 ≡ x → ⊥
IsPlaceOfNumber numbers x (Some i) = (i < length numbers) × (get_or numbers i 0 ≡ x)

-- how far the direct base b stands behind a part of class c; None: b is no such base
abbrev pub IsBaseAt : Classes → ClassId → ClassId → Option ℕ → Type 0
IsBaseAt h c b None = IsDirectBase h c false b → ⊥
IsBaseAt h c b (Some n) = IsDirectBase h c false b × (n ≡ base_number h c b) × (c.0 < length h)

-- how far the path leads; None: it is no path of bases
abbrev pub IsPathAt : Classes → ClassId → List ClassId → Option ℕ → Type 0
IsPathAt h c path None = Leads h c path → ⊥
IsPathAt h c path (Some n) = Leads h c path × (n ≡ path_number h c path)
