-- Where a hint gives the answer at once.
use Rattle.std.specs.Prelude.{ℕ, ◌+◌, Bool, false, nat_eq, ◌&&◌, ℤ, pos, negsuc}

-- the view is of the target class, and the source lies so many bytes behind it as the hint says
abbrev pub is_at_hint : (class view_at at target : ℕ) → ℤ → Bool
is_at_hint class view_at at target (pos n) = nat_eq (view_at + n) at && nat_eq class target
is_at_hint class view_at at target (negsuc n) = false
