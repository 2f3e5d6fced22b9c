-- What is kept of parts, as lists by number.
use Rattle.std.specs.Prelude.{◌≡◌, ℕ, Option, List, length}
use Rattle.path_heap.specs.declared.state.Cell.{Cell}

-- the cell of each part, and how far parts stand behind their complete object: of a complete object its innermost part that runs, and of a part that runs the one around it
pub record PartLists : Type 0 where
  pub cells : List Cell
  pub tops : List (Option ℕ)
  pub around : List (Option ℕ)

-- no list is longer or shorter
pub record AreAsLong (old new : PartLists) : Type 0 where
  pub cells : length new.cells ≡ length old.cells
  pub tops : length new.tops ≡ length old.tops
  pub around : length new.around ≡ length old.around
