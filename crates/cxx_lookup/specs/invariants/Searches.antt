-- What the searches over the declarations of a name, and over the subobjects of a class, answer.
use Rattle.std.specs.Prelude.{◌≡◌, ◌<◌, ℕ, Option, Some, None, List, Contains, length, slice_get}
use Rattle.cxx_hierarchy.specs.declared.records.ClassId.{ClassId}
use Rattle.cxx_hierarchy.specs.Classes.{Classes}
use Rattle.cxx_subobject.specs.declared.Subobject.{Subobject}
use Rattle.cxx_subobject.specs.Subobjects.{IsSubobject}
use Rattle.cxx_subobject.specs.Inside.{IsInside}
use Rattle.cxx_lookup.specs.declared.Found.{Found}
use Rattle.cxx_lookup.specs.Lookup.{place_of_found, name_of, IsDeclared}

-- it is a declaration of the name in the class of s
pub record IsDeclaredAt (h : Classes) (s : Subobject) (name : List ℕ) (found : Found) : Type 0 where
  pub place : place_of_found found ≡ s
  pub named : name_of h found ≡ Some name

-- the list has each declaration of the name in a subobject of c, and nothing else
pub record AreDeclarations (h : Classes) (c : ClassId) (name : List ℕ) (list : List Found) : Type 0 where
  pub declared : (found : Found) → Contains list found → IsDeclared h c name found
  pub listed : (found : Found) → IsDeclared h c name found → Contains list found

-- each of the list is in a subobject of c
pub record AreIn (h : Classes) (c : ClassId) (list : List Found) : Type 0 where
  pub each : (found : Found) → Contains list found → IsSubobject h c (place_of_found found)

-- a place, if there is one, is one of the list
abbrev pub IsPlaceIn : List Found → Option ℕ → Type 0
IsPlaceIn list None = Unit {0}
IsPlaceIn list (Some k) = k < length list

-- the declaration at the place, if there is one
abbrev pub found_at : List Found → Option ℕ → Option Found
found_at list None = None
found_at list (Some k) = slice_get list k

-- there is a hider, and the declaration's subobject lies in its own
abbrev pub IsHidden : Classes → Option Found → Found → Type 0
IsHidden h None found = ⊥
IsHidden h (Some hider) found = IsInside h (place_of_found hider) (place_of_found found)

-- there is no best one yet, or its subobject lies in that of the declaration
abbrev pub GoesOver : Classes → Found → Option Found → Type 0
GoesOver h found None = Unit {0}
GoesOver h found (Some best) = IsInside h (place_of_found found) (place_of_found best)

-- the first n are hidden
pub record AreHidden (h : Classes) (hider : Option Found) (list : List Found) (n : ℕ) : Type 0 where
  pub each : (k : ℕ) (found : Found) → k < n → slice_get list k ≡ Some found → IsHidden h hider found

-- of the first n, the one at k is not hidden, and lies in no other subobject of one that is not hidden
pub record IsHighest (h : Classes) (hider : Option Found) (list : List Found) (n k : ℕ) : Type 0 where
  pub found : Found
  pub there : slice_get list k ≡ Some found
  pub outside : IsHidden h hider found → ⊥
  pub top : (j : ℕ) (other : Found) → j < n → slice_get list j ≡ Some other → (IsHidden h hider other → ⊥) → IsInside h (place_of_found other) (place_of_found found) → place_of_found other ≡ place_of_found found
