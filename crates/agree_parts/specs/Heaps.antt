-- Heap objects, each of a class and at an address.
use Rattle.std.specs.Prelude.{ℕ, Option, Some, None, List, [], ◌∷◌, ◌++◌, slice_get}
use Rattle.cxx_hierarchy.specs.declared.records.ClassId.{ClassId}

-- the heap objects made so far, by their number: the class of each, and the address where it starts
pub record Heap : Type 0 where
  pub classes : List ClassId
  pub starts : List ℕ

-- no object was made yet
abbrev pub empty_heap : Heap
empty_heap = record { classes = []; starts = [] }

abbrev pub or_zero : Option ℕ → ℕ
or_zero None = 0
or_zero (Some n) = n

-- where an object starts
abbrev pub object_start : Heap → ℕ → ℕ
object_start g k = or_zero (slice_get g.starts k)

-- the heap after one more object of this class was made at this address
abbrev pub grown : Heap → ClassId → ℕ → Heap
grown g c start = record { classes = g.classes ++ c ∷ []; starts = g.starts ++ start ∷ [] }
