-- A view of a heap object whose virtual pointers stand in memory.
use Rattle.cxx_hierarchy.specs.declared.records.ClassId.{ClassId}
use Rattle.cxx_subobject.specs.Locations.{ObjectPart}
use Rattle.cxx_subobject.specs.Subobjects.{whole_of}
use Rattle.path_plan.specs.Places.{part}
use Rattle.path_model.specs.TypedStates.{IsPartMade}
use Rattle.abi_primary.specs.Kinds.{IsDynamic}
use Rattle.agree_parts.specs.Heaps.{Heap}
use Rattle.agree_parts.specs.Placed.{AreObjectsLaid}
use Rattle.byte_memory.specs.Store.{Store}
use Rattle.agree_relation.specs.Worlds.{World, IsProgramWorld, world_classes}
use Rattle.agree_relation.specs.Columns.{HasPointers}

-- the part q, of class c, in a complete object of class d, is a dynamic view whose virtual pointers stand in memory
pub record IsStandingView (w : World) (g : Heap) (memory : Store) (q : ObjectPart) (c d : ClassId) : Type 0 where
  pub world : IsProgramWorld w
  pub laid : AreObjectsLaid (world_classes w) w.setup.rows g
  pub made : IsPartMade (world_classes w) g.classes q c
  pub complete : IsPartMade (world_classes w) g.classes (part q.object q.owner (whole_of d)) d
  pub dynamic : IsDynamic (world_classes w) c
  pub pointers : HasPointers w g memory q c d
