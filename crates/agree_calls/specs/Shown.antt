-- What virtual pointers in memory show of the views of a state.
use Rattle.std.specs.Prelude.{◌≡◌, false, Some}
use Rattle.cxx_hierarchy.specs.declared.records.ClassId.{ClassId}
use Rattle.cxx_subobject.specs.Locations.{ObjectPart}
use Rattle.path_model.specs.Values.{Value, Objects}
use Rattle.path_model.specs.TypedStates.{IsPartMade}
use Rattle.path_model.specs.Uses.{view_of}
use Rattle.path_model.specs.Rules.{names, is_unready, is_outside}
use Rattle.abi_primary.specs.Kinds.{IsDynamic}
use Rattle.byte_memory.specs.Store.{Store}
use Rattle.agree_relation.specs.Worlds.{World, world_classes}
use Rattle.agree_relation.specs.Words.{heap_of}
pub use Rattle.agree_statements.specs.Seen.{IsSeenFrom}

-- each dynamic part of an open object that is ready and within the view of its complete object is seen from a view, which is that one
pub record ShowsViews (w : World) (s : Objects) (memory : Store) : Type 0 where
  pub of : (p : ObjectPart) (c : ClassId) → IsPartMade (world_classes w) s.classes p c → s.is_closed p.object ≡ false → is_unready s p ≡ false → is_outside (world_classes w) s p ≡ false → IsDynamic (world_classes w) c → IsSeenFrom w (heap_of s.classes memory.regions) memory p c
  pub is_view : (p : ObjectPart) (c : ClassId) (made : IsPartMade (world_classes w) s.classes p c) (opened : s.is_closed p.object ≡ false) (ready : is_unready s p ≡ false) (within : is_outside (world_classes w) s p ≡ false) (dynamic : IsDynamic (world_classes w) c) →
      view_of (world_classes w) s p ≡ Some (of p c made opened ready within dynamic).view.at

-- the value names no part of a closed object
abbrev pub NamesOpen : Objects → Value → Type 0
NamesOpen s v = names (λ p. s.is_closed p.object) v ≡ false
