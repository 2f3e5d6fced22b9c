-- When numbers stand for the parts, the leaves and the objects of a run.
use Rattle.std.specs.Prelude.{◌≡◌, ◌-◌, ℕ, ◌≤◌, ◌^◌, Some, List, length, slice_get}
use Rattle.cxx_hierarchy.specs.declared.records.ClassId.{ClassId}
use Rattle.cxx_hierarchy.specs.Classes.{Classes}
use Rattle.cxx_hierarchy.specs.Hierarchies.{IsHierarchy}
use Rattle.cxx_subobject.specs.Parts.{most_parts}
use Rattle.path_plan.specs.Places.{ObjectPart}
use Rattle.path_plan.specs.Phases.{Phase, Raw, InBases, ReadyBuilding, Complete, ReadyEnding, EndingBases, Ended}
use Rattle.path_plan.specs.declared.form.Form.TheVariants.{InFull}
use Rattle.path_numbers.specs.Sizes.{sizes_of, total}
use Rattle.path_numbers.specs.Nodes.{Node}
use Rattle.path_numbers.specs.Heap.{IsAt, start_of}
use Rattle.path_model.specs.Values.{Value, Unset, Number, Null, Pointer, Leaf, Objects}
use Rattle.path_heap.specs.declared.state.Phase.{Phase as PhaseCode}
use Rattle.path_heap.specs.declared.state.Phase.TheVariants.{Raw as RawCode, InBases as InBasesCode, ReadyBuilding as ReadyBuildingCode, Complete as CompleteCode, ReadyEnding as ReadyEndingCode, EndingBases as EndingBasesCode, Ended as EndedCode}
use Rattle.path_heap.specs.declared.state.Value.{Value as ValueCode}
use Rattle.path_heap.specs.declared.state.Value.TheVariants.{Unset as UnsetCode, Number as NumberCode, Null as NullCode, Pointer as PointerCode}
use Rattle.path_heap.specs.declared.state.Cell.{Cell}
use Rattle.path_heap.specs.declared.state.ObjectRow.{ObjectRow}
use Rattle.path_heap.specs.declared.heap.Heap.{Heap}
use Rattle.path_heap.specs.Points.{Points, PointsLeaf, HasOwner}
use Rattle.path_heap.specs.Running.{ViewsStand}

-- the phase that the code names
abbrev pub phase_of : PhaseCode → Phase
phase_of RawCode = Raw
phase_of InBasesCode = InBases
phase_of ReadyBuildingCode = ReadyBuilding
phase_of CompleteCode = Complete
phase_of ReadyEndingCode = ReadyEnding
phase_of EndingBasesCode = EndingBases
phase_of EndedCode = Ended

-- a value of the code means this value; a pointer is the number of a part
abbrev pub Means : Classes → List ClassId → ValueCode → Value → Type 0
Means h classes UnsetCode Unset = Unit {0}
Means h classes UnsetCode (Number z) = ⊥
Means h classes UnsetCode Null = ⊥
Means h classes UnsetCode (Pointer p) = ⊥
Means h classes (NumberCode a) Unset = ⊥
Means h classes (NumberCode a) (Number z) = a ≡ z
Means h classes (NumberCode a) Null = ⊥
Means h classes (NumberCode a) (Pointer p) = ⊥
Means h classes NullCode Unset = ⊥
Means h classes NullCode (Number z) = ⊥
Means h classes NullCode Null = Unit {0}
Means h classes NullCode (Pointer p) = ⊥
Means h classes (PointerCode n) Unset = ⊥
Means h classes (PointerCode n) (Number z) = ⊥
Means h classes (PointerCode n) Null = ⊥
Means h classes (PointerCode n) (Pointer p) = Points h classes n p

-- the construction of the part has begun
abbrev pub HasBegun : Objects → ObjectPart → Type 0
HasBegun s p = s.phases.phase p ≡ Raw → ⊥

-- the cell of the part y; its class and its owner are there once it has begun
pub record CellStands (h : Classes) (s : Objects) (cells : List Cell) (y : Node) : Type 0 where
  pub cell : Cell
  pub listed : slice_get cells y.number ≡ Some cell
  pub phase : phase_of cell.phase ≡ s.phases.phase y.part
  pub class : HasBegun s y.part → cell.class ≡ y.class
  pub owner : HasBegun s y.part → HasOwner h s.classes y (y.number - cell.back) cell.owner

-- the value of the leaf of number n
pub record LeafStands (h : Classes) (s : Objects) (leaves : List ValueCode) (n : ℕ) (l : Leaf) : Type 0 where
  pub value : ValueCode
  pub listed : slice_get leaves n ≡ Some value
  pub means : Means h s.classes value (s.leaf l)

-- the row of the heap object k of class c
pub record ObjectStands (h : Classes) (s : Objects) (objects : List ObjectRow) (k : ℕ) (c : ClassId) : Type 0 where
  pub row : ObjectRow
  pub listed : slice_get objects k ≡ Some row
  pub class : row.class ≡ c
  pub start : row.start ≡ start_of (sizes_of h) s.classes k
  pub closed : row.is_closed ≡ s.is_closed k

-- one number for each part and each leaf of the objects made so far, of which none has more than the limit on parts
pub record CountsParts (h : Classes) (classes : List ClassId) (heap : Heap) : Type 0 where
  pub objects : length heap.objects.items ≡ length classes
  pub cells : length heap.parts.cells ≡ total (sizes_of h InFull) classes
  pub leaves : length heap.leaves.items ≡ total (sizes_of h InFull) classes
  pub tops : length heap.parts.tops ≡ total (sizes_of h InFull) classes
  pub around : length heap.parts.around ≡ total (sizes_of h InFull) classes
  pub few : total (sizes_of h InFull) classes ≤ 2 ^ 64
  pub small : (k : ℕ) (c : ClassId) → slice_get classes k ≡ Some c → sizes_of h InFull c ≤ most_parts

-- the heap stands for these objects, column by column
pub record HeapStands (h : Classes) (heap : Heap) (s : Objects) : Type 0 where
  pub hierarchy : IsHierarchy h
  pub cells : (y : Node) → IsAt h (sizes_of h) s.classes y → CellStands h s heap.parts.cells y
  pub leaves : (n : ℕ) (l : Leaf) → PointsLeaf h s.classes n l → LeafStands h s heap.leaves.items n l
  pub objects : (k : ℕ) (c : ClassId) → slice_get s.classes k ≡ Some c → ObjectStands h s heap.objects.items k c
  pub views : ViewsStand h s.classes s.phases heap.parts.tops heap.parts.around
  pub counts : CountsParts h s.classes heap
