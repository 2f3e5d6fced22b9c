-- What the copy of a part does to the heap.
use Rattle.std.specs.Prelude.{◌≡◌, ℕ, Some}
use Rattle.cxx_hierarchy.specs.declared.records.ClassId.{ClassId}
use Rattle.cxx_hierarchy.specs.Classes.{Classes}
use Rattle.cxx_subobject.specs.Subobjects.{class_of}
use Rattle.path_plan.specs.Places.{ObjectPart}
use Rattle.path_model.specs.Effects.{copied}
use Rattle.path_model.specs.Values.{Objects}
use Rattle.path_heap.specs.declared.heap.Heap.{Heap}
use Rattle.path_heap.specs.Points.{Points}
use Rattle.path_heap.specs.Stands.{HeapStands, HasBegun}

-- of the parts of these numbers, both of class c and begun, the one takes the leaves of the other, and nothing else changes
abbrev pub CopiesPart : Classes → (old new : Heap) → ClassId → (to from : ℕ) → Type 0
CopiesPart h old new c to from = (s : Objects) (p q : ObjectPart) →
    HeapStands h old s → Points h s.classes to p → Points h s.classes from q → HasBegun s p → HasBegun s q → class_of p.at ≡ Some c → class_of q.at ≡ Some c →
    HeapStands h new (copied h c p q s)
