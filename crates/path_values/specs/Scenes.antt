-- When a scene over a heap stands for what a statement sees.
use Rattle.std.specs.List.{AllZip}
use Rattle.cxx_hierarchy.specs.Classes.{Classes}
use Rattle.path_model.specs.Values.{Sight}
use Rattle.path_heap.specs.declared.heap.Heap.{Heap}
use Rattle.path_heap.specs.Stands.{HeapStands, Means}
use Rattle.path_values.specs.declared.scene.Scene.{Scene}

-- the heap stands for the objects, and each value of the code means the one at its place
pub record SceneStands (h : Classes) (heap : Heap) (scene : Scene) (s : Sight) : Type 0 where
  pub heap_stands : HeapStands h heap s.objects
  pub globals_mean : AllZip (Means h s.objects.classes) scene.globals.now s.globals
  pub this_means : Means h s.objects.classes scene.this s.this
  pub locals_mean : AllZip (Means h s.objects.classes) scene.locals.now s.locals
