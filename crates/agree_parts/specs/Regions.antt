-- Heap objects as regions of a memory, and as items of any list that goes along with them.
use Rattle.std.specs.Prelude.{◌≡◌, ℕ, Some, List, map, slice_get}
use Rattle.cxx_hierarchy.specs.declared.records.ClassId.{ClassId}
use Rattle.byte_memory.specs.declared.memory.Region.{Region}
use Rattle.abi_sound.specs.Places.{Places}
use Rattle.agree_parts.specs.Heaps.{Heap}

-- the n-th item tells where the n-th object starts, and its size
pub record AreExtents {X : Type 0} (l : Places) (g : Heap) (start size : X → ℕ) (xs : List X) : Type 0 where
  pub starts : map start xs ≡ g.starts
  pub sizes : (k : ℕ) (x : X) (c : ClassId) → slice_get xs k ≡ Some x → slice_get g.classes k ≡ Some c → size x ≡ l.size c

-- the n-th region is that of the n-th object, open or closed
abbrev pub AreRegions : Places → Heap → List Region → Type 0
AreRegions l g regions = AreExtents l g (λ (r : Region). r.start) (λ r. r.size) regions
