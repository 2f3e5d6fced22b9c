-- Which places of base subobjects are sums along paths.
use Rattle.std.specs.Prelude.{◌≡◌, ℕ, Some, List, slice_get}
use Rattle.cxx_hierarchy.specs.declared.records.ClassId.{ClassId}
use Rattle.cxx_hierarchy.specs.Classes.{Classes}
use Rattle.cxx_subobject.specs.declared.Subobject.{Subobject}
use Rattle.abi_sound.specs.declared.class_layout.ClassLayout.{ClassLayout}
use Rattle.abi_sound.specs.Places.{place_in_class}

-- each place is that of its subobject
pub record AreSumsOf (h : Classes) (rows : List ClassLayout) (c : ClassId) (list : List Subobject) (places : List ℕ) : Type 0 where
  pub each : (i : ℕ) (s : Subobject) (place : ℕ) → slice_get list i ≡ Some s → slice_get places i ≡ Some place → place ≡ place_in_class h rows c s

-- one place is not that of its subobject
pub record HasNoSum (h : Classes) (rows : List ClassLayout) (c : ClassId) (list : List Subobject) (places : List ℕ) : Type 0 where
  pub number : ℕ
  pub s : Subobject
  pub place : ℕ
  pub there : slice_get list number ≡ Some s
  pub said : slice_get places number ≡ Some place
  pub other : place ≡ place_in_class h rows c s → ⊥
