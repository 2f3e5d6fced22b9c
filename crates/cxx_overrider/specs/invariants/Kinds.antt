-- How often a class is a base of another.
use Rattle.std.specs.Prelude.{◌≡◌, ◌≢◌, ◌<◌, ℕ, Some, List, [], length, slice_get, slice_index_or, ◌+◌, ◌⊎◌}
use Rattle.cxx_hierarchy.specs.declared.records.ClassId.{ClassId}
use Rattle.cxx_hierarchy.specs.declared.records.Base.{Base}
use Rattle.cxx_hierarchy.specs.Classes.{Classes, bases_of}
use Rattle.cxx_subobject.specs.declared.Subobject.{Subobject}
use Rattle.cxx_subobject.specs.Subobjects.{class_of, IsOfClass}
use Rattle.cxx_overrider.specs.declared.places.Place.{Place}
use Rattle.cxx_overrider.specs.declared.kinds.BaseKind.{BaseKind}
use Rattle.cxx_overrider.specs.declared.kinds.BaseKind.TheVariants.{NotBase, Unique, Ambiguous}
use Rattle.cxx_overrider.specs.invariants.Places.{place_of_subobject, lifted, IsThrough}

-- s is a subobject of one of the first direct bases of c, and of class d
pub record IsPartThrough (h : Classes) (c d : ClassId) (count : ℕ) (s : Subobject) : Type 0 where
  pub base : Base ClassId
  pub number : ℕ
  pub below : number < count
  pub listed : slice_get (bases_of h c) number ≡ Some base
  pub through : IsThrough h c base s
  pub class : class_of s ≡ Some d

-- one subobject is as P says, at this place
pub record IsOnlyAtPlace (P : Subobject → Type 0) (place : Place) : Type 0 where
  pub one : Subobject
  pub is : P one
  pub at_place : place_of_subobject one ≡ place
  pub only : (s : Subobject) → P s → s ≡ one

pub record AreTwo (P : Subobject → Type 0) : Type 0 where
  pub one : Subobject
  pub other : Subobject
  pub one_is : P one
  pub other_is : P other
  pub differ : one ≢ other

-- how many subobjects are as P says: none, one, or more
abbrev pub Counts : (P : Subobject → Type 0) → BaseKind → Type 0
Counts P NotBase = (s : Subobject) → P s → ⊥
Counts P (Unique place) = IsOnlyAtPlace P place
Counts P Ambiguous = AreTwo P

abbrev pub kind_of : List (List BaseKind) → ClassId → ClassId → BaseKind
kind_of rows c d = slice_index_or (slice_index_or rows c.0 []) d.0 NotBase

-- the rows say of each class, which of all classes are among it and its bases, and how often
pub record AreKinds (h : Classes) (rows : List (List BaseKind)) : Type 0 where
  pub each : (c d : ClassId) → c.0 < length rows → Counts (IsOfClass h c d) (kind_of rows c d)

-- the row of a class
pub record IsKindRow (h : Classes) (c : ClassId) (row : List BaseKind) : Type 0 where
  pub size : length row ≡ c.0 + 1
  pub each : (d : ClassId) → d.0 < length row → Counts (IsOfClass h c d) (slice_index_or row d.0 NotBase)

-- the kind where some subobjects count as the first kind says, and those of one more base as the second
abbrev pub IsMerged : BaseKind → BaseKind → BaseKind → Type 0
IsMerged NotBase more merged = merged ≡ more
IsMerged Ambiguous more merged = merged ≡ Ambiguous
IsMerged (Unique place) NotBase merged = merged ≡ Unique place
IsMerged (Unique place) Ambiguous merged = merged ≡ Ambiguous
IsMerged (Unique place) (Unique other) merged = ((place ≡ other) × (merged ≡ Unique place)) ⊎ ((place ≢ other) × (merged ≡ Ambiguous))

-- the kind of the same subobjects in a class that has the base
abbrev pub lifted_kind : Base ClassId → BaseKind → BaseKind
lifted_kind base NotBase = NotBase
lifted_kind base (Unique place) = Unique (lifted base place)
lifted_kind base Ambiguous = Ambiguous
