-- What a call changes in the columns of the heap, over numbers alone.
use Rattle.std.specs.Prelude.{◌≡◌, ◌≤◌, ◌^◌, ◌+◌, ◌-◌, ◌%◌, ℕ, true, false, nat_eq, if◌then◌else◌, Option, Some, None, [], ◌∷◌, ◌++◌, length, replicate, slice_get, slice_set}
use Rattle.cxx_hierarchy.specs.declared.records.ClassId.{ClassId}
use Rattle.cxx_subobject.specs.Parts.{most_parts}
use Rattle.path_heap.specs.declared.state.Phase.{Phase}
use Rattle.path_heap.specs.declared.state.Phase.TheVariants.{Raw, InBases, ReadyBuilding, Complete, ReadyEnding, EndingBases, Ended}
use Rattle.path_heap.specs.declared.state.Value.{Value}
use Rattle.path_heap.specs.declared.state.Value.TheVariants.{Unset}
use Rattle.path_heap.specs.declared.state.Cell.{Cell}
use Rattle.path_heap.specs.declared.state.ObjectRow.{ObjectRow}
use Rattle.path_heap.specs.declared.state.NumberedPart.{NumberedPart}
use Rattle.path_heap.specs.declared.heap.Heap.{Heap}
use Rattle.path_heap.specs.Blanks.{no_cell}
use Rattle.path_heap.specs.Running.{entry_at}
use Rattle.path_heap.specs.invariants.Cuts.{IsObjectAt}

abbrev pub cell_or : Option Cell → Cell
cell_or None = no_cell
cell_or (Some cell) = cell

-- the cell of a number
abbrev pub cell_at : Heap → ℕ → Cell
cell_at heap n = cell_or (slice_get heap.parts.cells n)

abbrev pub row_or : Option ObjectRow → ObjectRow
row_or None = record { class = record { 0 = 0 }; start = 0; is_closed = true }
row_or (Some row) = row

-- the row of a heap object
abbrev pub row_at : Heap → ℕ → ObjectRow
row_at heap k = row_or (slice_get heap.objects.items k)

abbrev pub value_or_unset : Option Value → Value
value_or_unset None = Unset
value_or_unset (Some v) = v

-- the number of the view of a complete object: itself while it is complete, else the innermost part that runs
abbrev pub view_number : Phase → ℕ → Option ℕ → Option ℕ
view_number Raw whole top = top
view_number InBases whole top = top
view_number ReadyBuilding whole top = top
view_number Complete whole top = Some whole
view_number ReadyEnding whole top = top
view_number EndingBases whole top = top
view_number Ended whole top = top

-- the part's cell in another phase
abbrev pub marked_cell : Phase → NumberedPart → Cell
marked_cell phase part = record { phase = phase; class = part.class; back = (part.number - part.whole) % 2 ^ 16; owner = part.owner }

-- one cell is in another phase, and nothing else has changed
pub record Marked (old new : Heap) (part : NumberedPart) (phase : Phase) : Type 0 where
  pub cells : new.parts.cells ≡ slice_set old.parts.cells part.number (marked_cell phase part)
  pub leaves : new.leaves.items ≡ old.leaves.items
  pub objects : new.objects.items ≡ old.objects.items
  pub tops : new.parts.tops ≡ old.parts.tops
  pub around : new.parts.around ≡ old.parts.around

-- the part is the innermost one of its complete object
pub record Entered (old new : Heap) (part : NumberedPart) : Type 0 where
  pub cells : new.parts.cells ≡ old.parts.cells
  pub leaves : new.leaves.items ≡ old.leaves.items
  pub objects : new.objects.items ≡ old.objects.items
  pub tops : new.parts.tops ≡ slice_set old.parts.tops part.whole (Some ((part.number - part.whole) % 2 ^ 16))
  pub around : new.parts.around ≡ slice_set old.parts.around part.number (entry_at old.parts.tops part.whole)

-- the one around it is
pub record Left (old new : Heap) (part : NumberedPart) : Type 0 where
  pub cells : new.parts.cells ≡ old.parts.cells
  pub leaves : new.leaves.items ≡ old.leaves.items
  pub objects : new.objects.items ≡ old.objects.items
  pub tops : new.parts.tops ≡ slice_set old.parts.tops part.whole (entry_at old.parts.around part.number)
  pub around : new.parts.around ≡ old.parts.around

-- one leaf has another value, and nothing else has changed
pub record Stored (old new : Heap) (k : ℕ) (value : Value) : Type 0 where
  pub cells : new.parts.cells ≡ old.parts.cells
  pub leaves : new.leaves.items ≡ slice_set old.leaves.items k value
  pub objects : new.objects.items ≡ old.objects.items
  pub tops : new.parts.tops ≡ old.parts.tops
  pub around : new.parts.around ≡ old.parts.around

abbrev pub closed_row : ObjectRow → ObjectRow
closed_row row = record { class = row.class; start = row.start; is_closed = true }

-- an object is closed where the part is its whole, and nothing else has changed
pub record Closed (old new : Heap) (part : NumberedPart) : Type 0 where
  pub cells : new.parts.cells ≡ old.parts.cells
  pub leaves : new.leaves.items ≡ old.leaves.items
  pub object : ℕ
  pub found : IsObjectAt old.objects.items part.number object
  pub objects : new.objects.items ≡ (if nat_eq (row_at old object).start part.number then slice_set old.objects.items object (closed_row (row_at old object)) else old.objects.items)
  pub tops : new.parts.tops ≡ old.parts.tops
  pub around : new.parts.around ≡ old.parts.around

-- behind the others there are an object of class c, and for each of its numbers a cell and a leaf
pub record Made (old new : Heap) (c : ClassId) (size start : ℕ) : Type 0 where
  pub start_is : start ≡ length old.parts.cells
  pub fits : length old.parts.cells + size ≤ 2 ^ 64
  pub small : size ≤ most_parts
  pub cells : new.parts.cells ≡ old.parts.cells ++ replicate size no_cell
  pub leaves : new.leaves.items ≡ old.leaves.items ++ replicate size Unset
  pub objects : new.objects.items ≡ old.objects.items ++ record { class = c; start = start; is_closed = false } ∷ []
  pub tops : new.parts.tops ≡ old.parts.tops ++ replicate size None
  pub around : new.parts.around ≡ old.parts.around ++ replicate size None
