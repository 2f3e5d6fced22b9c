-- Virtual pointers that a change leaves as they were.
use Rattle.std.proofs.Common.{◌≡◌, ℕ, ◌*◌, Some, refl, ◌∙◌}
use Rattle.cxx_hierarchy.specs.declared.records.ClassId.{ClassId}
use Rattle.cxx_subobject.specs.declared.Subobject.{Subobject}
use Rattle.cxx_subobject.specs.Subobjects.{IsSubobject, class_of}
use Rattle.cxx_subobject.specs.Locations.{ObjectPart}
use Rattle.path_model.specs.Values.{inner_part}
use Rattle.abi_primary.specs.Kinds.{IsDynamic}
use Rattle.byte_memory.specs.Bits.{number_from}
use Rattle.byte_memory.specs.Regions.{fault_at}
use Rattle.byte_memory.specs.Store.{Store}
use Rattle.byte_machine.specs.Running.{table_of}
use Rattle.agree_parts.specs.Heaps.{Heap}
use Rattle.agree_parts.specs.Addresses.{address}
use Rattle.agree_relation.specs.Worlds.{World, world_classes, places_in}
use Rattle.agree_relation.specs.Columns.{HasPointers}

-- the word at an address is the same where neither its region nor its bytes have changed
pub table_same : (memory memory' : Store) (at : ℕ) → fault_at memory'.regions at 8 ≡ fault_at memory.regions at 8 → number_from memory'.bit (8 * at) (8 * 8) ≡ number_from memory.bit (8 * at) (8 * 8) → table_of memory' at ≡ table_of memory at
unfolding table_of
table_same memory memory' at fault number = rw (fault, number) refl

-- the words of all virtual pointers of a part are the same
pub record AreTablesSame (w : World) (g : Heap) (memory memory' : Store) (q : ObjectPart) (c : ClassId) : Type 0 where
  pub each : (i : Subobject) (e : ClassId) → IsSubobject (world_classes w) c i → class_of i ≡ Some e → IsDynamic (world_classes w) e →
      table_of memory' (address (world_classes w) (places_in w) g (inner_part q i)) ≡ table_of memory (address (world_classes w) (places_in w) g (inner_part q i))

pub pointers_kept : (w : World) (g : Heap) (memory memory' : Store) (q : ObjectPart) (c d : ClassId) → AreTablesSame w g memory memory' q c → HasPointers w g memory q c d → HasPointers w g memory' q c d
pointers_kept w g memory memory' q c d same a = record {
  placed = a.placed;
  stand = a.stand;
  pointer = λ i e valid class dynamic. let old = a.pointer i e valid class dynamic in (old.0, same.each i e valid class dynamic ∙ old.1, old.2);
}
