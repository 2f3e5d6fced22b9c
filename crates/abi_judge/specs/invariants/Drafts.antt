-- What is known of rows under judgement.
use Rattle.std.specs.Prelude.{◌≡◌, ℕ, ◌<◌, ◌≤◌, Some, length, slice_get}
use Rattle.cxx_hierarchy.specs.declared.records.ClassId.{ClassId}
use Rattle.cxx_hierarchy.specs.Hierarchies.{IsHierarchy}
use Rattle.abi_primary.specs.Kinds.{TellDynamic}
use Rattle.abi_sound.specs.declared.class_layout.ClassLayout.{ClassLayout}
use Rattle.abi_sound.specs.Places.{places_of}
use Rattle.abi_sound.specs.Sound.{AreFullRows}
use Rattle.abi_judge.specs.declared.draft.Draft.{Draft}
use Rattle.abi_judge.specs.Rules.{IsSmallRow, HasFirstHolders}

-- the rows tell of each class, in small numbers, and the flags which classes are dynamic
pub record AreDraftRows (draft : Draft) : Type 0 where
  pub keeps : IsHierarchy draft.h.now
  pub full : AreFullRows draft.h.now draft.rows.now
  pub small : (i : ℕ) (row : ClassLayout) → slice_get draft.rows.now i ≡ Some row → IsSmallRow row
  pub dynamic : TellDynamic draft.h.now draft.dynamic.now

-- so it is known of a class, and of all up to it by what their virtual bases are held
pub record IsDraftTo (draft : Draft) (c : ClassId) : Type 0 where
  pub is : AreDraftRows draft
  pub known : c.0 < length draft.h.now
  pub held : (d : ClassId) → d.0 ≤ c.0 → HasFirstHolders draft.h.now (places_of draft.h.now draft.rows.now) d
