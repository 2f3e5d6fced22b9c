-- The subobjects of a class by their numbers.
use Rattle.std.specs.Prelude.{◌≡◌, ℕ, ◌<◌, Bool, ◌&&◌, Option, Some, None, List, length, map, find, slice_get}
use Rattle.cxx_hierarchy.specs.declared.records.ClassId.{ClassId}
use Rattle.cxx_hierarchy.specs.Classes.{Classes}
use Rattle.cxx_subobject.specs.declared.Subobject.{Subobject}
use Rattle.cxx_subobject.specs.Subobjects.{IsSubobject, join, same_subobject, is_of_class}
use Rattle.cxx_subobject.specs.Preorder.{preorder}
use Rattle.cxx_overrider.specs.declared.Overrider.{Overrider}
use Rattle.path_numbers.specs.Numbers.{subobject_number}
use Rattle.path_tables.specs.declared.parts.PartList.{PartList}
use Rattle.path_tables.specs.declared.finals.FinalAt.{FinalAt}

-- s is the subobject of c that has the number x within it
pub record IsNumbered (h : Classes) (c : ClassId) (x : ℕ) (s : Subobject) : Type 0 where
  pub valid : IsSubobject h c s
  pub number : subobject_number h c s ≡ x

-- the subobjects of c in preorder, with their numbers
pub record IsPartList (h : Classes) (c : ClassId) (list : PartList) : Type 0 where
  pub parts : list.parts ≡ preorder h c
  pub numbers : list.numbers.items ≡ map (subobject_number h c) (preorder h c)

-- the first subobject of class `target` whose base i is y
abbrev pub derived_in : Classes → ClassId → ClassId → Subobject → Subobject → Option Subobject
derived_in h c target i y = find (λ t. is_of_class target t && same_subobject (join t i) y) (preorder h c)

-- the place of the first item that a test takes; None: it takes none
abbrev pub IsFirstTaken : {X : Type 0} → (X → Bool) → List X → Option ℕ → Type 0
IsFirstTaken test xs None = find test xs ≡ None
IsFirstTaken test xs (Some i) = i < length xs × find test xs ≡ slice_get xs i

-- the number of a subobject of c that was found, if one was
abbrev pub number_where_found : Classes → ClassId → Option Subobject → Option ℕ
number_where_found h c None = None
number_where_found h c (Some s) = Some (subobject_number h c s)

-- the number of the subobject where a function was found, and the function
abbrev pub numbered_overrider : Classes → ClassId → Option Overrider → Option FinalAt
numbered_overrider h c None = None
numbered_overrider h c (Some o) = Some (record { at = subobject_number h c o.at; function = o.function })
