-- A list as a column: its items, and the item that each place has where none was set.
use Rattle.std.specs.Prelude.{ℕ, List, slice_index_or}

pub record Column (X : Type 0) : Type 0 where
  pub blank : X
  pub items : List X

-- a column has no more items than this, which is 2 ^ 38
abbrev pub most_items : ℕ
most_items = 274877906944

-- the item at a place, and the blank one past the end
abbrev pub item_in : {X : Type 0} → Column X → ℕ → X
item_in column n = slice_index_or column.items n column.blank
