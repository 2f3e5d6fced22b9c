-- What stands in slots by number.
use Rattle.std.specs.Prelude.{ℕ}
use Rattle.path_columns.specs.declared.slots.Slots.{Slots}
use Rattle.path_columns.specs.Paged.{paged}
use Rattle.path_columns.specs.Pages.{number_at}

-- the item that was set at a number, and the blank one where none was
abbrev pub item_at : {X : Type 0} → Slots X → ℕ → X
item_at slots n = paged (number_at slots.places) slots.items.items slots.blank 4 n
