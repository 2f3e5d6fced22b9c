-- The conversions of results that are settled.
use Rattle.std.specs.Prelude.{◌≡◌, ℕ, Some, List, slice_get}
use Rattle.cxx_hierarchy.specs.Classes.{Classes}
use Rattle.abi_sound.specs.Places.{Places}
use Rattle.abi_slots.specs.Groups.{adjust_by}
use Rattle.abi_vtable.specs.declared.returns.KnownReturn.{KnownReturn}

-- each is known with the adjustment that it gives
pub record AreKnown (h : Classes) (l : Places) (known : List KnownReturn) : Type 0 where
  pub each : (i : ℕ) (one : KnownReturn) → slice_get known i ≡ Some one → one.adjust ≡ adjust_by h l (Some one.classes)
