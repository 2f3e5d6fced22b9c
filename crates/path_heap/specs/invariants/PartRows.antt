-- What is kept of parts, row by row.
use Rattle.std.specs.Prelude.{ℕ, None, List, map}
use Rattle.path_heap.specs.declared.part_rows.PartRow.{PartRow}
use Rattle.path_heap.specs.Blanks.{no_cell}
use Rattle.path_heap.specs.PartLists.{PartLists}

-- the row of a part that has not begun
abbrev pub no_row : PartRow
no_row = record { cell = no_cell; around = None; top = None }

-- the lists that the rows are
abbrev pub part_lists : List PartRow → PartLists
part_lists rows = record { cells = map (λ row. row.cell) rows; tops = map (λ row. row.top) rows; around = map (λ row. row.around) rows }
