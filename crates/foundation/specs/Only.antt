-- The only one.
use Rattle.std.specs.Prelude.{◌≡◌}

-- the one of which something holds
pub record IsOnly {X : Type 0} (P : X → Type 0) (x : X) : Type 0 where
  pub is : P x
  pub only : (other : X) → P other → other ≡ x
