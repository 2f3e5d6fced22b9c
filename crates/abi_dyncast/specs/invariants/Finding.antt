-- What is told of a part: what lies below it, the part itself included.
use Rattle.std.specs.Prelude.{◌≡◌, ◌↔◌, ℕ, ◌<◌, Bool, true, nat_eq, ◌&&◌, ◌||◌}
use Rattle.abi_dyncast.specs.declared.parts.TypedPart.{TypedPart}
use Rattle.abi_dyncast.specs.declared.work.Goal.{Goal}
use Rattle.abi_dyncast.specs.declared.work.Found.{Found}
use Rattle.abi_dyncast.specs.Graph.{Graph, any_edge, public_edge, LeadsToSome}
use Rattle.abi_dyncast.specs.Casts.{IsPartAtAddress}

-- a part of the target class
abbrev pub IsOfTarget : Graph → Goal → TypedPart → Type 0
IsOfTarget g goal part = g.class part ≡ goal.target

abbrev pub IsSource : Graph → Goal → TypedPart → Type 0
IsSource g goal part = IsPartAtAddress g goal.at goal.class part

pub record TellsBelow (g : Graph) (goal : Goal) (part : TypedPart) (found : Found) : Type 0 where
  pub source : (found.source ≡ true) ↔ LeadsToSome g any_edge (IsSource g goal) part
  pub public_source : (found.public_source ≡ true) ↔ LeadsToSome g public_edge (IsSource g goal) part
  pub public_target : (found.public_target ≡ true) ↔ LeadsToSome g public_edge (IsOfTarget g goal) part

-- what a part of a class at an address tells by itself
abbrev pub is_source : Goal → ℕ → ℕ → Bool
is_source goal at class = nat_eq at goal.at && nat_eq class goal.class

abbrev pub found_itself : Goal → ℕ → ℕ → Found
found_itself goal at class = record { source = is_source goal at class; public_source = is_source goal at class; public_target = nat_eq class goal.target }

-- what is told does not change by a base of a class: the source was found, by any edges and by public ones, and the class has a lower
-- number than the target class
pub record IsToldAlready (goal : Goal) (found : Found) (class : ℕ) : Type 0 where
  pub source : found.source ≡ true
  pub public_source : found.public_source ≡ true
  pub lower : class < goal.target

-- what it tells with what one of its bases tells
abbrev pub found_with_base : Found → Found → Bool → Found
found_with_base own below is_public = record { source = own.source || below.source; public_source = own.public_source || (is_public && below.public_source); public_target = own.public_target || (is_public && below.public_target) }
