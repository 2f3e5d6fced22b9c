-- A mark for each class that has a virtual base.
use Rattle.std.specs.Prelude.{◌≡◌, ℕ, ◌<◌, Bool, false, List, length, get_or}
use Rattle.cxx_hierarchy.specs.declared.records.ClassId.{ClassId}
use Rattle.cxx_hierarchy.specs.Classes.{Classes}
use Rattle.abi_vtt.specs.Vtts.{has_vtt}

abbrev pub marked : List Bool → ClassId → Bool
marked marks c = get_or marks c.0 false

-- the marks of the first classes
pub record AreVirtualMarks (h : Classes) (n : ℕ) (marks : List Bool) : Type 0 where
  pub size : length marks ≡ n
  pub each : (c : ClassId) → c.0 < n → marked marks c ≡ has_vtt h c
