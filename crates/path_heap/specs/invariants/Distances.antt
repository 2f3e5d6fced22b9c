-- How far bases stand behind a part, in numbers.
use Rattle.std.specs.Prelude.{◌≡◌, ℕ, ◌%◌, ◌^◌, false, List}
use Rattle.cxx_hierarchy.specs.declared.records.ClassId.{ClassId}
use Rattle.cxx_hierarchy.specs.Classes.{Classes}
use Rattle.cxx_hierarchy.specs.VirtualBases.{IsDirectBase, HasVirtualBase}
use Rattle.cxx_subobject.specs.Subobjects.{Leads}
use Rattle.path_numbers.specs.Numbers.{base_number, shared_number, path_number}

-- to a direct base that is not virtual, where b is one of class c
abbrev pub IsBaseDistance : Classes → ClassId → ClassId → ℕ → Type 0
IsBaseDistance h c b n = IsDirectBase h c false b → n ≡ base_number h c b

-- along a path, up to whole turns of 64 bits, where it is one
abbrev pub IsPathDistance : Classes → ClassId → List ClassId → ℕ → Type 0
IsPathDistance h c path n = Leads h c path → n ≡ path_number h c path % 2 ^ 64

-- to a virtual base, where v is one of class c
abbrev pub IsSharedDistance : Classes → ClassId → ClassId → ℕ → Type 0
IsSharedDistance h c v n = HasVirtualBase h c v → n ≡ shared_number h c v
