-- A part that is seen from a view, whose virtual pointers stand in memory.
use Rattle.std.specs.Prelude.{◌≡◌, Some}
use Rattle.cxx_hierarchy.specs.declared.records.ClassId.{ClassId}
use Rattle.cxx_subobject.specs.declared.Subobject.{Subobject}
use Rattle.cxx_subobject.specs.Subobjects.{IsSubobject, class_of}
use Rattle.cxx_subobject.specs.Locations.{ObjectPart}
use Rattle.path_model.specs.Values.{inner_part}
use Rattle.agree_parts.specs.Heaps.{Heap}
use Rattle.byte_memory.specs.Store.{Store}
use Rattle.agree_relation.specs.Worlds.{World, world_classes}
use Rattle.agree_views.specs.Views.{IsStandingView}

-- the part p, of class c, is a subobject of a view whose virtual pointers stand in memory
pub record IsSeenFrom (w : World) (g : Heap) (memory : Store) (p : ObjectPart) (c : ClassId) : Type 0 where
  pub view : ObjectPart
  pub view_class : ClassId
  pub complete : ClassId
  pub stands : IsStandingView w g memory view view_class complete
  pub inner : Subobject
  pub valid : IsSubobject (world_classes w) view_class inner
  pub of_class : class_of inner ≡ Some c
  pub is : inner_part view inner ≡ p
