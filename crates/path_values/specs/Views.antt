-- What a call by the view runs, by numbers.
use Rattle.std.specs.Prelude.{◌≡◌, ℕ, Option, Some, None, List}
use Rattle.cxx_hierarchy.specs.declared.records.ClassId.{ClassId}
use Rattle.cxx_hierarchy.specs.Classes.{Classes}
use Rattle.cxx_subobject.specs.Subobjects.{class_of}
use Rattle.cxx_subobject.specs.Locations.{ObjectPart}
use Rattle.cxx_overrider.specs.declared.FunctionId.{FunctionId}
use Rattle.cxx_overrider.specs.Overriding.{IsVirtual}
use Rattle.path_model.specs.Values.{Objects}
use Rattle.path_heap.specs.declared.heap.Heap.{Heap}
use Rattle.path_heap.specs.Points.{Points}
use Rattle.path_heap.specs.Stands.{HeapStands, HasBegun}
use Rattle.path_values.specs.declared.views.Found.{Found}

-- the heap stands for the objects, and n is the number of the part p, whose construction has begun
pub record IsPartAt (h : Classes) (heap : Heap) (s : Objects) (n : ℕ) (p : ObjectPart) : Type 0 where
  pub heap_stands : HeapStands h heap s
  pub points : Points h s.classes n p
  pub begun : HasBegun s p

-- f is a virtual function of the part's class
pub record IsCallable (h : Classes) (p : ObjectPart) (f : FunctionId) : Type 0 where
  pub of_class : class_of p.at ≡ Some f.class
  pub virtual_function : IsVirtual h f

-- the function that runs and the number of its `this`, where there is one
abbrev pub RunsByView : Classes → List ClassId → Option Found → Option (ObjectPart × FunctionId) → Type 0
RunsByView h classes None None = Unit {0}
RunsByView h classes None (Some run) = ⊥
RunsByView h classes (Some found) None = ⊥
RunsByView h classes (Some found) (Some run) = Points h classes found.this run.0 × (found.function ≡ run.1)
