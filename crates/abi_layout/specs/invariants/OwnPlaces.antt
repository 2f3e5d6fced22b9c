-- The places of the direct non-virtual bases by those of the bases that are placed before the members.
use Rattle.std.specs.Prelude.{ℕ, Bool, false, nat_eq, if◌then◌else◌, List, [], ◌∷◌, map, filter}
use Rattle.cxx_hierarchy.specs.declared.records.ClassId.{ClassId}
use Rattle.cxx_hierarchy.specs.declared.records.Base.{Base}
use Rattle.abi_layout.specs.declared.placed_bases.PlacedBase.{PlacedBase}
use Rattle.abi_layout.specs.declared.placed_bases.PlacedBase.TheVariants.{Own, VirtualBase}
use Rattle.cxx_hierarchy.specs.Declarations.{is_plain_base}

-- the placed base is the direct non-virtual one of this class
abbrev pub is_own : ClassId → PlacedBase → Bool
is_own b (Own d) = nat_eq d.0 b.0
is_own b (VirtualBase v) = false

-- the place of the first that is the direct one of this class
abbrev pub own_place : List PlacedBase → List ℕ → ClassId → ℕ
own_place [] places b = 0
own_place (base ∷ fronts) [] b = 0
own_place (base ∷ fronts) (place ∷ places) b = if is_own b base then place else own_place fronts places b

-- in the order of the class head
abbrev pub own_places : List PlacedBase → List ℕ → List (Base ClassId) → List ℕ
own_places fronts places bases = map (λ (base : Base ClassId). own_place fronts places base.class) (filter is_plain_base bases)
