-- The walk down from a part to one that lies in it, and the hops that it makes.
use Rattle.std.specs.Prelude.{◌≡◌, ℕ, ◌+◌, Bool, true, false, List}
use Rattle.cxx_hierarchy.specs.Classes.{Classes}
use Rattle.cxx_subobject.specs.declared.locations.Hop.{Hop}
use Rattle.cxx_subobject.specs.declared.locations.Hop.TheVariants.{Inherit}
use Rattle.cxx_subobject.specs.Subobjects.{subobject}
use Rattle.cxx_subobject.specs.Locations.{hops_of_steps, hops_of}
use Rattle.path_plan.specs.declared.form.Form.{Form}
use Rattle.path_plan.specs.declared.form.Form.TheVariants.{InFull, AsBase}
use Rattle.path_numbers.specs.Sizes.{sizes_of}
use Rattle.path_numbers.specs.Nodes.{Node, Under}
use Rattle.path_places.specs.declared.locations.Spot.{Spot}

-- a complete object, or a base
abbrev pub full_or_base : Bool → Form
full_or_base true = InFull
full_or_base false = AsBase

-- the part as a hop
abbrev pub hop_of : Spot → Hop
hop_of spot = Inherit (subobject spot.root spot.path.items)

-- the code names the part x
pub record IsSpot (spot : Spot) (x : Node) : Type 0 where
  pub class : x.class ≡ spot.class
  pub form : x.form ≡ full_or_base spot.is_full
  pub is_at : x.part.at ≡ subobject spot.root spot.path.items

-- behind the hops to the complete object of a part stand those to the part n numbers on
pub record Walks (h : Classes) (spot : Spot) (n : ℕ) (old new : List Hop) : Type 0 where
  pub leads : (x y : Node) → IsSpot spot x → Under h (sizes_of h) y x → y.number ≡ x.number + n → old ≡ hops_of_steps x.part.owner → new ≡ hops_of y.part.owner y.part.at
