-- An address that is moved by a number leads to the part that lies there.
use Rattle.std.proofs.Common.{◌≡◌, ℕ, ◌+◌, ◌<◌, ◌^◌, List, arith}
use Rattle.cxx_hierarchy.specs.declared.records.ClassId.{ClassId}
use Rattle.cxx_hierarchy.specs.Classes.{Classes}
use Rattle.cxx_subobject.specs.Locations.{ObjectPart}
use Rattle.path_model.specs.TypedStates.{IsPartMade}
use Rattle.abi_sound.specs.declared.class_layout.ClassLayout.{ClassLayout}
use Rattle.abi_sound.specs.Places.{places_of}
use Rattle.byte_machine.specs.Running.{moved}
use Rattle.agree_parts.specs.Heaps.{Heap}
use Rattle.agree_parts.specs.Addresses.{address}
use Rattle.agree_parts.specs.Placed.{AreObjectsLaid}
use Rattle.agree_parts.proofs.Inside.{part_limit}

pub moved_below : (at by to : ℕ) → to ≡ at + by → to < 2 ^ 41 → moved at by ≡ to
moved_below at by to e low = omega arith

-- so many bytes behind a part
pub moved_to_part : (h : Classes) (rows : List ClassLayout) (g : Heap) (at by : ℕ) (q : ObjectPart) (d : ClassId) → AreObjectsLaid h rows g → IsPartMade h g.classes q d → address h (places_of h rows) g q ≡ at + by → moved at by ≡ address h (places_of h rows) g q
moved_to_part h rows g at by q d laid made e = moved_below at by (address h (places_of h rows) g q) e (part_limit h rows g q d laid made)

-- at the part itself
pub moved_by_none : (h : Classes) (rows : List ClassLayout) (g : Heap) (q : ObjectPart) (d : ClassId) → AreObjectsLaid h rows g → IsPartMade h g.classes q d → moved (address h (places_of h rows) g q) 0 ≡ address h (places_of h rows) g q
moved_by_none h rows g q d laid made = moved_to_part h rows g (address h (places_of h rows) g q) 0 q d laid made (omega arith)
