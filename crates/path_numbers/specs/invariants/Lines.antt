-- Offsets of things that stand one behind the other.
use Rattle.std.specs.Prelude.{◌≡◌, ℕ, ◌+◌, ◌≤◌, ◌<◌, List, length, get_or}
use Rattle.cxx_hierarchy.specs.declared.records.ClassId.{ClassId}
use Rattle.cxx_hierarchy.specs.Classes.{Classes}
use Rattle.cxx_subobject.specs.Parts.{most_parts}
use Rattle.path_plan.specs.declared.form.Form.TheVariants.{InFull}
use Rattle.path_numbers.specs.declared.numbers.Line.{Line}
use Rattle.path_numbers.specs.Sizes.{before, total, sizes_of}

-- the offsets of the first n things, and where the next one begins
pub record IsLineTo {X : Type 0} (f : X → ℕ) (start : ℕ) (xs : List X) (n : ℕ) (line : Line) : Type 0 where
  pub count : length line.offsets.items ≡ n
  pub each : (i : ℕ) → i < n → get_or line.offsets.items i 0 ≡ start + before f i xs
  pub end : line.end ≡ start + before f n xs

-- the offsets of all, and where the last one ends
pub record IsLinedUp {X : Type 0} (f : X → ℕ) (start : ℕ) (xs : List X) (line : Line) : Type 0 where
  pub each : (i : ℕ) → i < length xs → get_or line.offsets.items i 0 ≡ start + before f i xs
  pub end : line.end ≡ start + total f xs

-- no object has more numbers than the limit on parts
pub record HaveFewParts (h : Classes) : Type 0 where
  pub each : (c : ClassId) → c.0 < length h → sizes_of h InFull c ≤ most_parts
