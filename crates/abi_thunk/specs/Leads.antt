-- Where adjustments lead (Itanium C++ ABI 2.5.3).
use Rattle.std.specs.Prelude.{◌≡◌, Option, Some, None, ℤ, pos, ◌+ℤ◌}
use Rattle.cxx_hierarchy.specs.declared.records.ClassId.{ClassId}
use Rattle.cxx_subobject.specs.declared.Subobject.{Subobject}
use Rattle.abi_sound.specs.Places.{Places}
use Rattle.abi_slots.specs.declared.words.ThisAdjust.{ThisAdjust}
use Rattle.abi_slots.specs.declared.words.ReturnAdjust.{ReturnAdjust}
use Rattle.abi_slots.specs.Groups.{root_base}

-- with no vcall word the constant leads to the other subobject, and with one to the virtual base in whose table it stands
abbrev pub AdjustmentLeads : Places → ClassId → (from to : Subobject) → Option ℤ → Option ThisAdjust → Type 0
AdjustmentLeads l c from to None None = l.place c from ≡ l.place c to
AdjustmentLeads l c from to None (Some a) = (pos (l.place c from) +ℤ a.constant ≡ pos (l.place c to)) × (a.vcall ≡ None)
AdjustmentLeads l c from to (Some bytes) None = ⊥
AdjustmentLeads l c from to (Some bytes) (Some a) = (pos (l.place c from) +ℤ a.constant ≡ pos (l.place c (root_base from.root from))) × (a.vcall ≡ Some bytes)

-- with no vbase word the constant leads from the start of the object to the base, and with one from the virtual base on
abbrev pub ReturnLeads : Places → ClassId → Subobject → Option ℤ → Option ReturnAdjust → Type 0
ReturnLeads l c path None None = l.place c path ≡ 0
ReturnLeads l c path None (Some a) = (a.constant ≡ pos (l.place c path)) × (a.vbase ≡ None)
ReturnLeads l c path (Some bytes) None = ⊥
ReturnLeads l c path (Some bytes) (Some a) = (pos (l.place c (root_base path.root path)) +ℤ a.constant ≡ pos (l.place c path)) × (a.vbase ≡ Some bytes)
