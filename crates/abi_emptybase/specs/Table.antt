-- Where subobjects of which classes lie (Itanium C++ ABI 2.4, on empty bases).
use Rattle.std.specs.Prelude.{◌≡◌, ℕ, ◌+◌, Bool, ◌&&◌, ◌||◌, nat_eq, List}
use Rattle.std.specs.List.{list_any}
use Rattle.abi_emptybase.specs.declared.Part.{Part}

-- the test that two parts are of one class and at one place
abbrev pub same_placed_part : Part → Part → Bool
same_placed_part x y = nat_eq x.class y.class && nat_eq x.place y.place

-- the part lies in the table
abbrev pub holds : List Part → Part → Bool
holds table part = list_any (same_placed_part part) table

-- the part, this many bytes further
abbrev pub moved_part : ℕ → Part → Part
moved_part at part = record { class = part.class; place = part.place + at }

-- some part, moved, lies in the table
abbrev pub has_conflict : List Part → List Part → ℕ → Bool
has_conflict table parts at = list_any (λ part. holds table (moved_part at part)) parts

-- the new table has what the old one had and the moved parts, and nothing else
pub record Adds (old new parts : List Part) (at : ℕ) : Type 0 where
  pub each : (q : Part) → holds new q ≡ (holds old q || list_any (λ part. same_placed_part (moved_part at part) q) parts)
