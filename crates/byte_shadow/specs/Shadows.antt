-- What is noted of class subobjects, each named by its address and the number of its class.
use Rattle.std.specs.Prelude.{ℕ, Bool, true, false, nat_eq, ◌&&◌, if◌then◌else◌, Option, Some, None}
use Rattle.byte_code.specs.declared.op.Phase.{Phase}
use Rattle.byte_code.specs.declared.op.Phase.TheVariants.{Raw, InBases, ReadyBuilding, Complete, ReadyEnding, EndingBases, Ended}

-- the phase of the subobject of a class at an address, the complete object that it belongs to, and of a complete object its view,
-- these two each by address and class
pub record Notes : Type 0 where
  pub phase : ℕ → ℕ → Option Phase
  pub owner : ℕ → ℕ → Option (ℕ × ℕ)
  pub view : ℕ → ℕ → Option (ℕ × ℕ)

-- nothing is noted
abbrev pub no_notes : Notes
no_notes = record { phase = λ at class. None; owner = λ at class. None; view = λ at class. None }

-- a function after its value was changed at one pair
abbrev pub put_at : {X : Type 0} → (ℕ → ℕ → X) → ℕ → ℕ → X → ℕ → ℕ → X
put_at f at class x a c = if nat_eq at a && nat_eq class c then x else f a c

-- a raw subobject of a complete object is noted
abbrev pub noted_raw : Notes → ℕ → ℕ → ℕ → ℕ → Notes
noted_raw n at class owner owner_class = record n { phase = put_at n.phase at class (Some Raw); owner = put_at n.owner at class (Some (owner, owner_class)) }

-- a subobject is in another phase
abbrev pub phased : Notes → ℕ → ℕ → Phase → Notes
phased n at class phase = record n { phase = put_at n.phase at class (Some phase) }

-- a subobject is the view of a complete object
abbrev pub viewed : Notes → ℕ → ℕ → ℕ → ℕ → Notes
viewed n owner owner_class at class = record n { view = put_at n.view owner owner_class (Some (at, class)) }

-- all bases are constructed, and none has begun to end (ISO C++03 12.7)
abbrev pub is_ready_phase : Phase → Bool
is_ready_phase Raw = false
is_ready_phase InBases = false
is_ready_phase ReadyBuilding = true
is_ready_phase Complete = true
is_ready_phase ReadyEnding = true
is_ready_phase EndingBases = false
is_ready_phase Ended = false

abbrev pub is_ready_in : Option Phase → Bool
is_ready_in None = false
is_ready_in (Some phase) = is_ready_phase phase

-- the subobject is noted, in such a phase
abbrev pub ready_at : Notes → ℕ → ℕ → Bool
ready_at n at class = is_ready_in (n.phase at class)
