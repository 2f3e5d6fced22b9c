-- Which leaves lie in a part, and which places lead to them.
use Rattle.std.specs.Prelude.{◌≡◌, ℕ, Some, List, Contains, slice_get}
use Rattle.cxx_hierarchy.specs.declared.records.ClassId.{ClassId}
use Rattle.cxx_hierarchy.specs.declared.records.ValueType.{ValueType}
use Rattle.cxx_hierarchy.specs.declared.records.FieldType.TheVariants.{Value}
use Rattle.cxx_hierarchy.specs.Classes.{Classes}
use Rattle.cxx_subobject.specs.Subobjects.{class_of}
use Rattle.cxx_subobject.specs.Locations.{ObjectPart, IsElement}
use Rattle.cxx_program.specs.declared.statement.TypedPlace.{TypedPlace}
use Rattle.cxx_program.specs.Typed.{IsPath}
use Rattle.path_plan.specs.Places.{IsPartWithin}
use Rattle.path_model.specs.Values.{Leaf}

-- the leaf is an element of a number or pointer member of p itself, or of a part of p at any depth
pub record LiesIn (h : Classes) (p : ObjectPart) (l : Leaf) : Type 0 where
  pub inside : IsPartWithin h l.part p
  pub class : ClassId
  pub of_class : class_of l.part.at ≡ Some class
  pub type : ValueType ClassId
  pub element : IsElement h class l.member l.index (Value type)

-- the list has exactly the leaves of the part, each once
pub record ListsLeaves (h : Classes) (p : ObjectPart) (list : List Leaf) : Type 0 where
  pub listed : (l : Leaf) → LiesIn h p l → Contains list l
  pub valid : (l : Leaf) → Contains list l → LiesIn h p l
  pub once : (i j : ℕ) (l : Leaf) → slice_get list i ≡ Some l → slice_get list j ≡ Some l → i ≡ j

-- the place leads from a part of class c to a leaf (ISO C++03 5.2.5)
pub record IsLeafPlace (h : Classes) (c : ClassId) (place : TypedPlace) : Type 0 where
  pub path : IsPath h c place.passed place.base
  pub class : ClassId
  pub of_class : class_of place.base ≡ Some class
  pub type : ValueType ClassId
  pub element : IsElement h class place.member place.index (Value type)

-- the places lead the same way, from whatever pointer
pub record SameWay (x y : TypedPlace) : Type 0 where
  pub passed : x.passed ≡ y.passed
  pub base : x.base ≡ y.base
  pub member : x.member ≡ y.member
  pub index : x.index ≡ y.index
