use Rattle.std.specs.Prelude.{ℕ, ◌+◌, ◌≤◌, Bool, nat_le, nat_lt, ◌&&◌, Option, List, [], ◌∷◌, ◌++◌, length, All}
use Rattle.std.specs.List.{find}
use Rattle.byte_memory.specs.declared.memory.Region.{Region}
use Rattle.byte_memory.specs.Regions.{IsAscendingBy}
use Rattle.byte_machine.specs.declared.heap.Opened.{Opened}

-- the most bytes that all heap objects of a run may take together
abbrev pub heap_limit : ℕ
heap_limit = 67108864

-- the heap object has the address
abbrev pub has_address : ℕ → Opened → Bool
has_address at object = nat_le object.start at && nat_lt at (object.start + object.size)

-- the heap object that has the address, of those made so far
abbrev pub object_at : List Opened → ℕ → Option Opened
object_at objects at = find (has_address at) objects

-- the heap objects after one more was made; they are numbered from 1
abbrev pub with_heap_object : List Opened → ℕ → ℕ → ℕ → List Opened
with_heap_object objects start size class = objects ++ (record { number = length objects + 1; start = start; size = size; class = class }) ∷ []

-- each heap object ends before the later ones start
abbrev pub AreObjectsInOrder : List Opened → Type 0
AreObjectsInOrder objects = IsAscendingBy (λ object. object.start) (λ object. object.size) objects

-- what is above all regions is above all heap objects
abbrev pub LieInRegions : List Opened → List Region → Type 0
LieInRegions objects regions = (bound : ℕ) → All (λ region. region.start + region.size ≤ bound) regions → All (λ object. object.start + object.size ≤ bound) objects
