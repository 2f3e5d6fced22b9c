-- The virtual bases of a class in the order in which they are met, with their offsets.
use Rattle.std.specs.Prelude.{◌≡◌, ℕ, ◌+◌, ◌≤◌, ◌<◌, if◌then◌else◌, List, [], ◌∷◌, ◌++◌, length, get_or}
use Rattle.cxx_subobject.specs.Parts.{most_parts}
use Rattle.cxx_hierarchy.specs.declared.records.ClassId.{ClassId}
use Rattle.cxx_hierarchy.specs.declared.records.Base.{Base}
use Rattle.cxx_hierarchy.specs.Classes.{Classes}
use Rattle.path_plan.specs.declared.form.Form.TheVariants.{AsBase}
use Rattle.path_plan.specs.Plans.{is_among, virtual_order}
use Rattle.path_numbers.specs.declared.sharing.Sharing.{Sharing}
use Rattle.path_numbers.specs.Sizes.{Sizes, total}
use Rattle.path_numbers.specs.Numbers.{place_among}

-- a class stands where it is met first
abbrev pub met : List ClassId → ClassId → List ClassId
met order v = if is_among order v then order else order ++ v ∷ []

abbrev pub meet_all : List ClassId → List ClassId → List ClassId
meet_all order [] = order
meet_all order (v ∷ list) = meet_all (met order v) list

-- what a base brings: the virtual bases of its class, and itself where it is one
abbrev pub brings : Classes → Base ClassId → List ClassId
brings h base = virtual_order h base.class ++ (if base.is_virtual then base.class ∷ [] else [])

-- each class that was met has its offset, and the next one comes behind them
pub record IsSharing (size : Sizes) (s : Sharing) : Type 0 where
  pub start : 1 ≤ s.start
  pub offsets : (v : ClassId) → v.0 < length s.offsets.items → get_or s.offsets.items v.0 0 ≡ (if is_among s.order.items v then place_among size s.start s.order.items v else 0)
  pub end : s.end ≡ s.start + total (size AsBase) s.order.items

-- what was met lies within the limit
pub record HasRoom (size : Sizes) (start : ℕ) (order : List ClassId) : Type 0 where
  pub room : start + total (size AsBase) order ≤ most_parts
