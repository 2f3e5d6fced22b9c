-- What the columns of the heap have where nothing was set.
use Rattle.path_heap.specs.declared.state.Phase.TheVariants.{Raw}
use Rattle.path_heap.specs.declared.state.Cell.{Cell}

-- the cell of a part of which nothing has begun
abbrev pub no_cell : Cell
no_cell = record { phase = Raw; class = record { 0 = 0 }; back = 0; owner = record { 0 = 0 } }
