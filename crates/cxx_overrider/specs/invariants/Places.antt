-- Where in an object a subobject lies: it is the whole, or lies in a direct base, or in a shared one.
use Rattle.std.specs.Prelude.{◌≡◌, Bool, true, false, List, [], ◌∷◌}
use Rattle.cxx_hierarchy.specs.declared.records.ClassId.{ClassId}
use Rattle.cxx_hierarchy.specs.declared.records.Base.{Base}
use Rattle.cxx_hierarchy.specs.Classes.{Classes}
use Rattle.cxx_subobject.specs.declared.Root.{Root}
use Rattle.cxx_subobject.specs.declared.Root.TheVariants.{Whole, Shared}
use Rattle.cxx_subobject.specs.declared.Subobject.{Subobject}
use Rattle.cxx_subobject.specs.Subobjects.{IsSubobject, subobject, tail_of, join}
use Rattle.cxx_overrider.specs.declared.places.Place.{Place}
use Rattle.cxx_overrider.specs.declared.places.Place.TheVariants.{Itself, InBase, InShared}

abbrev pub place_below : List ClassId → Place
place_below [] = Itself
place_below (b ∷ path) = InBase b

abbrev pub place_at : Root → List ClassId → Place
place_at Whole path = place_below (tail_of path)
place_at (Shared w) path = InShared w

abbrev pub place_of_subobject : Subobject → Place
place_of_subobject s = place_at s.root s.path

abbrev pub base_place : Bool → ClassId → Place
base_place true b = InShared b
base_place false b = InBase b

-- where a subobject of the base lies in the class
abbrev pub lifted : Base ClassId → Place → Place
lifted base Itself = base_place base.is_virtual base.class
lifted base (InBase b) = base_place base.is_virtual base.class
lifted base (InShared w) = InShared w

abbrev pub direct_base_part : Bool → ClassId → ClassId → Subobject
direct_base_part true c b = subobject (Shared b) (b ∷ [])
direct_base_part false c b = subobject Whole (c ∷ b ∷ [])

-- the subobject of c that its direct base is
abbrev pub base_of : ClassId → Base ClassId → Subobject
base_of c base = direct_base_part base.is_virtual c base.class

-- s, in an object of class c, is a subobject of its direct base
pub record IsThrough (h : Classes) (c : ClassId) (base : Base ClassId) (s : Subobject) : Type 0 where
  pub part : Subobject
  pub valid : IsSubobject h base.class part
  pub joined : s ≡ join (base_of c base) part
