-- Values that are read from some leaves and given to others.
use Rattle.std.specs.Prelude.{ℕ, List, drop}
use Rattle.std.specs.List.{AllZip, zip, find}
use Rattle.cxx_hierarchy.specs.Classes.{Classes}
use Rattle.path_model.specs.Values.{Leaf, Objects}
use Rattle.path_model.specs.Effects.{same_leaf, value_behind}
use Rattle.path_heap.specs.declared.heap.Heap.{Heap}
use Rattle.path_heap.specs.declared.state.Value.{Value as ValueCode}
use Rattle.path_heap.specs.Points.{PointsLeaf}
use Rattle.path_heap.specs.Stands.{HeapStands, Means}

-- the first leaf of each pair has the old value of the second; of pairs with the same first leaf the first one counts
abbrev pub with_moved_leaves : Objects → List (Leaf × Leaf) → Objects
with_moved_leaves s pairs = record {
  classes = s.classes;
  is_closed = s.is_closed;
  phases = s.phases;
  leaf = λ l. value_behind s.leaf l (find (λ pair. same_leaf pair.0 l) pairs);
}

-- a value means that of the leaf
abbrev pub MeansLeaf : Classes → Objects → ValueCode → Leaf → Type 0
MeansLeaf h s v l = Means h s.classes v (s.leaf l)

-- the values of the leaves
pub record ReadsAll (heap : Heap) (numbers : List ℕ) (values : List ValueCode) : Type 0 where
  pub reads : (h : Classes) (s : Objects) (leaves : List Leaf) → HeapStands h heap s → AllZip (PointsLeaf h s.classes) numbers leaves → AllZip (MeansLeaf h s) values leaves

-- the leaves from number i on have their values
pub record StoresFrom (old new : Heap) (numbers : List ℕ) (values : List ValueCode) (i : ℕ) : Type 0 where
  pub stores : (h : Classes) (s : Objects) (leaves sources : List Leaf) → HeapStands h old s → AllZip (PointsLeaf h s.classes) numbers leaves → AllZip (MeansLeaf h s) values sources → HeapStands h new (with_moved_leaves s (drop i (zip leaves sources)))

-- all leaves have theirs
abbrev pub StoresAll : Heap → Heap → List ℕ → List ValueCode → Type 0
StoresAll old new numbers values = StoresFrom old new numbers values 0
