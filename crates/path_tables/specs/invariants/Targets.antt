-- The target of a cast, by its place in a list.
use Rattle.std.specs.Prelude.{◌≡◌, ℕ, Bool, true, false, nat_eq, Option, Some, None, List, slice_get}
use Rattle.cxx_hierarchy.specs.declared.records.ClassId.{ClassId}
use Rattle.cxx_hierarchy.specs.Classes.{Classes}
use Rattle.cxx_subobject.specs.declared.Subobject.{Subobject}
use Rattle.cxx_subobject.specs.Subobjects.{IsSubobject}
use Rattle.cxx_subobject.specs.Preorder.{preorder}
use Rattle.cxx_search.specs.Casts.{IsTarget, IsTargetOver, IsCast}

-- the view x and the source y are subobjects of class c, and parts are all of these, in preorder
pub record AreAmong (h : Classes) (c : ClassId) (parts : List Subobject) (x y : Subobject) : Type 0 where
  pub view : IsSubobject h c x
  pub source : IsSubobject h c y
  pub all : parts ≡ preorder h c

-- a target of the cast, and where this is asked one in which y lies
abbrev pub IsWanted : Classes → ClassId → Subobject → Subobject → Bool → Subobject → Type 0
IsWanted h target x y true t = IsTargetOver h target x y t
IsWanted h target x y false t = IsTarget h target x t

-- this place is passed over
abbrev pub is_passed_over : Option ℕ → ℕ → Bool
is_passed_over None i = false
is_passed_over (Some place) i = nat_eq place i

-- P holds, at a place that is not passed over
abbrev pub IsOther : (Subobject → Type 0) → Option ℕ → ℕ → Subobject → Type 0
IsOther P skip i t = (is_passed_over skip i ≡ false) × P t

-- another one of which P holds stands there; None: there is none
abbrev pub IsOtherAt : (Subobject → Type 0) → List Subobject → Option ℕ → Option ℕ → Type 0
IsOtherAt P parts skip None = (j : ℕ) (t : Subobject) → slice_get parts j ≡ Some t → IsOther P skip j t → ⊥
IsOtherAt P parts skip (Some i) = (t : Subobject) × (slice_get parts i ≡ Some t) × IsOther P skip i t

-- what P holds of stands there; None: P holds of nothing
abbrev pub IsPlaceOf : (Subobject → Type 0) → List Subobject → Option ℕ → Type 0
IsPlaceOf P parts None = (t : Subobject) → P t → ⊥
IsPlaceOf P parts (Some i) = (t : Subobject) × (slice_get parts i ≡ Some t) × P t

-- the cast leads to what stands there; None: it leads nowhere
abbrev pub IsCastTo : Classes → ClassId → Subobject → Subobject → List Subobject → Option ℕ → Type 0
IsCastTo h target x y parts None = IsCast h target x y None
IsCastTo h target x y parts (Some i) = (t : Subobject) × (slice_get parts i ≡ Some t) × IsCast h target x y (Some t)
