use Rattle.std.specs.Prelude.{◌≡◌, ℕ, suc, zero, ◌+◌, ◌-◌, ◌*◌, ◌≤◌, ◌⊎◌, nat_le, nat_lt, nat_eq, ◌&&◌, if◌then◌else◌, Option, Some, None, Bool}
use Rattle.std.specs.Int.{bit_at}

-- whether a number has the bit of this place, counted from the lowest on
abbrev pub has_bit : ℕ → ℕ → Bool
has_bit value place = nat_eq (bit_at value place) 1

-- a number with its lowest bit, where both are set
abbrev pub with_low : Option Bool → Option ℕ → Option ℕ
with_low None high = None
with_low (Some low) None = None
with_low (Some low) (Some high) = Some ((if low then 1 else 0) + 2 * high)

-- the number whose n bits stand from a bit on, the lowest first, or None where one of them is unset
abbrev pub number_from : (ℕ → Option Bool) → ℕ → ℕ → Option ℕ
number_from bit at zero = Some 0
number_from bit at (suc n) = with_low (bit at) (number_from bit (at + 1) n)

-- one of the n places from a place on
abbrev pub is_among_places : ℕ → ℕ → ℕ → Bool
is_among_places at n place = nat_le at place && nat_lt place (at + n)

-- the bits after the low n bits of a value were stored from one of them on
abbrev pub stored : (ℕ → Option Bool) → ℕ → ℕ → ℕ → ℕ → Option Bool
stored bit at n value place = if is_among_places at n place then Some (has_bit value (place - at)) else bit place

-- the bits after n of them were unset
abbrev pub cleared : (ℕ → Option Bool) → ℕ → ℕ → ℕ → Option Bool
cleared bit at n place = if is_among_places at n place then None else bit place

-- the bits after n of them, set or unset, were copied from one place to another
abbrev pub with_bits_copied : (ℕ → Option Bool) → ℕ → ℕ → ℕ → ℕ → Option Bool
with_bits_copied bit from to n place = if is_among_places to n place then bit (from + (place - to)) else bit place

-- two ranges of n places are one, or have no place in common
abbrev pub AreOneOrApart : ℕ → ℕ → ℕ → Type 0
AreOneOrApart from to n = (from ≡ to) ⊎ ((from + n ≤ to) ⊎ (to + n ≤ from))
