-- One field of rows, as a list.
use Rattle.std.proofs.Common.{◌≡◌, ℕ, zero, suc, Some, List, [], ◌∷◌, ◌++◌, length, refl, ap, sym, ◌∙◌, subst}
use Rattle.std.specs.Prelude.{Option, None, slice_get, slice_index_or, slice_set, replicate, map}
use Rattle.path_heap.specs.declared.part_rows.PartRow.{PartRow}
use Rattle.path_heap.specs.PartLists.{PartLists, AreAsLong}
use Rattle.path_heap.specs.invariants.PartRows.{part_lists}

-- a row is set
pub field_set : {X Y : Type 0} (f : X → Y) (rows : List X) (n : ℕ) (row : X) → map f (slice_set rows n row) ≡ slice_set (map f rows) n (f row)
field_set f [] n row = refl
field_set f (x ∷ rows) zero row = refl
field_set f (x ∷ rows) (suc n) row = ap (λ ys. f x ∷ ys) (field_set f rows n row)

-- a row is set that has what stood there
pub field_kept : {X Y : Type 0} (f : X → Y) (rows : List X) (n : ℕ) (row blank : X) → f row ≡ f (slice_index_or rows n blank) → map f (slice_set rows n row) ≡ map f rows
field_kept f [] n row blank same = refl
field_kept f (x ∷ rows) zero row blank same = ap (λ y. y ∷ map f rows) same
field_kept f (x ∷ rows) (suc n) row blank same = ap (λ ys. f x ∷ ys) (field_kept f rows n row blank same)

-- what stands at a place, by what stands past the end
pub field_at : {X Y Z : Type 0} (f : X → Y) (or : Option Y → Z) (rows : List X) (n : ℕ) (blank : X) → or None ≡ or (Some (f blank)) → or (slice_get (map f rows) n) ≡ or (Some (f (slice_index_or rows n blank)))
field_at f or [] n blank past = past
field_at f or (x ∷ rows) zero blank past = refl
field_at f or (x ∷ rows) (suc n) blank past = field_at f or rows n blank past

-- rows that are the same are put behind others
pub field_more : {X Y : Type 0} (f : X → Y) (rows : List X) (count : ℕ) (row : X) → map f (rows ++ replicate count row) ≡ map f rows ++ replicate count (f row)
field_more f [] zero row = refl
field_more f [] (suc count) row = ap (λ ys. f row ∷ ys) (field_more f [] count row)
field_more f (x ∷ rows) count row = ap (λ ys. f x ∷ ys) (field_more f rows count row)

field_count : {X Y : Type 0} (f : X → Y) (rows : List X) → length (map f rows) ≡ length rows
field_count f [] = refl
field_count f (x ∷ rows) = ap (λ n. suc n) (field_count f rows)

-- as many rows
pub as_long : (rows changed : List PartRow) (old : PartLists) → part_lists rows ≡ old → length changed ≡ length rows → AreAsLong old (part_lists changed)
as_long rows changed old is many = subst (λ lists. AreAsLong lists (part_lists changed)) is (record {
  cells = field_count (λ row. row.cell) changed ∙ (many ∙ sym (field_count (λ row. row.cell) rows));
  tops = field_count (λ row. row.top) changed ∙ (many ∙ sym (field_count (λ row. row.top) rows));
  around = field_count (λ row. row.around) changed ∙ (many ∙ sym (field_count (λ row. row.around) rows));
})
