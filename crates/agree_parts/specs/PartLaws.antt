-- Where parts and leaves of heap objects lie, from the parts that they belong to and from one another.
use Rattle.std.specs.Prelude.{◌≡◌, ℕ, ◌+◌, ◌*◌, ◌<◌, ◌≤◌, ◌⊎◌, true, false, Some, None, List, [], ◌∷◌, Contains, slice_get}
use Rattle.cxx_hierarchy.specs.declared.records.Base.{Base}
use Rattle.cxx_hierarchy.specs.declared.records.ClassId.{ClassId}
use Rattle.cxx_hierarchy.specs.declared.records.ValueType.{ValueType}
use Rattle.cxx_hierarchy.specs.declared.records.FieldType.TheVariants.{Value, Object}
use Rattle.cxx_hierarchy.specs.Classes.{Classes, bases_of, width_of_member}
use Rattle.cxx_hierarchy.specs.VirtualBases.{HasVirtualBase}
use Rattle.cxx_subobject.specs.declared.Root.TheVariants.{Whole}
use Rattle.cxx_subobject.specs.declared.Subobject.{Subobject}
use Rattle.cxx_subobject.specs.Subobjects.{IsSubobject, subobject, whole_of, shared_base, join}
use Rattle.cxx_subobject.specs.Locations.{IsElement, ObjectPart}
use Rattle.path_plan.specs.Places.{part, base_part, shared_part, element}
use Rattle.path_model.specs.Values.{Leaf, inner_part}
use Rattle.path_model.specs.Places.{owner_class}
use Rattle.path_model.specs.TypedStates.{IsPartMade, IsLeafMade}
use Rattle.abi_primary.specs.Kinds.{IsDynamic}
use Rattle.abi_sound.specs.declared.class_layout.ClassLayout.{ClassLayout}
use Rattle.abi_sound.specs.Places.{places_of, size_of_value}
use Rattle.abi_sound.specs.Locations.{AreDisjoint, bits_of_value, pointer_span}
use Rattle.abi_sound.specs.Chains.{IsInChain}
use Rattle.byte_memory.specs.declared.memory.Region.{Region}
use Rattle.byte_memory.specs.Regions.{close_fault}
use Rattle.byte_memory.specs.Store.{byte_span}
use Rattle.agree_parts.specs.Heaps.{Heap}
use Rattle.agree_parts.specs.Addresses.{address, leaf_address, span, leaf_bits, AreApart}
use Rattle.agree_parts.specs.Placed.{IsObject, AreObjectsLaid, LieIn}
use Rattle.agree_parts.specs.Regions.{AreRegions}

-- the bytes that the bits of a leaf touch lie in its object
abbrev pub LeafBytesLieInside : Classes → List ClassLayout → Heap → Type 0
LeafBytesLieInside h rows g = (a : Leaf) (c : ClassId) (t : ValueType ClassId) → AreObjectsLaid h rows g → IsPartMade h g.classes a.part c →
    IsElement h c a.member a.index (Value t) →
    LieIn (places_of h rows) g a.part.object (leaf_address h (places_of h rows) g a) (byte_span ((places_of h rows).first c a.member) (bits_of_value (width_of_member h c a.member) t))

-- from the whole of its complete object, a part lies at its place in that object's class
abbrev pub PartsLieInWholes : Classes → List ClassLayout → Heap → Type 0
PartsLieInWholes h rows g = (p : ObjectPart) (c d : ClassId) → IsPartMade h g.classes p c → owner_class h g.classes p.object p.owner ≡ Some d →
    address h (places_of h rows) g p ≡ address h (places_of h rows) g (part p.object p.owner (whole_of d)) + (places_of h rows).place d p.at

-- from the whole of its complete object, a subobject of a part lies at its place in that object's class
abbrev pub PartsOfViewsLieInWholes : Classes → List ClassLayout → Heap → Type 0
PartsOfViewsLieInWholes h rows g = (p : ObjectPart) (c d : ClassId) (s : Subobject) → IsPartMade h g.classes p c →
    owner_class h g.classes p.object p.owner ≡ Some d → IsSubobject h c s →
    address h (places_of h rows) g (inner_part p s) ≡ address h (places_of h rows) g (part p.object p.owner (whole_of d)) + (places_of h rows).place d (join p.at s)

-- from a part, a direct base that is not virtual lies at its place in the part's class
abbrev pub BasesLieInParts : Classes → List ClassLayout → Heap → Type 0
BasesLieInParts h rows g = (p : ObjectPart) (c : ClassId) (b : Base ClassId) → IsPartMade h g.classes p c → Contains (bases_of h c) b →
    b.is_virtual ≡ false →
    address h (places_of h rows) g (base_part p b) ≡ address h (places_of h rows) g p + (places_of h rows).place c (subobject Whole (c ∷ b.class ∷ []))

-- from a part, an element that is an object lies at its member's place, behind the elements before it
abbrev pub ElementsLieInParts : Classes → List ClassLayout → Heap → Type 0
ElementsLieInParts h rows g = (p : ObjectPart) (c d : ClassId) (m i : ℕ) → IsPartMade h g.classes p c → IsElement h c m i (Object d) →
    address h (places_of h rows) g (element p m i d) ≡ address h (places_of h rows) g p + ((places_of h rows).member c m + i * (places_of h rows).size d)

-- from a part, a leaf lies at its member's place, behind the elements before it
abbrev pub LeavesLieInParts : Classes → List ClassLayout → Heap → Type 0
LeavesLieInParts h rows g = (a : Leaf) (c : ClassId) (t : ValueType ClassId) → IsPartMade h g.classes a.part c →
    IsElement h c a.member a.index (Value t) →
    leaf_address h (places_of h rows) g a ≡ address h (places_of h rows) g a.part + ((places_of h rows).member c a.member + a.index * size_of_value t)

-- the bits of a leaf are those of its member, from the leaf's address on
abbrev pub LeafBitsLieInParts : Classes → List ClassLayout → Heap → Type 0
LeafBitsLieInParts h rows g = (a : Leaf) (c : ClassId) (t : ValueType ClassId) → IsPartMade h g.classes a.part c →
    IsElement h c a.member a.index (Value t) →
    leaf_bits h (places_of h rows) g a ≡ span (8 * leaf_address h (places_of h rows) g a + (places_of h rows).first c a.member) (bits_of_value (width_of_member h c a.member) t)

-- from the whole of a complete object, a virtual base lies at its place in the class
abbrev pub VirtualBasesLieInWholes : Classes → List ClassLayout → Heap → Type 0
VirtualBasesLieInWholes h rows g = (p : ObjectPart) (c v : ClassId) → IsPartMade h g.classes p c → p.at ≡ whole_of c → HasVirtualBase h c v →
    address h (places_of h rows) g (shared_part p v) ≡ address h (places_of h rows) g p + (places_of h rows).place c (shared_base v)

-- a leaf and a virtual pointer have no bit in common
abbrev pub LeavesMissPointers : Classes → List ClassLayout → Heap → Type 0
LeavesMissPointers h rows g = (a : Leaf) (t : ValueType ClassId) (p : ObjectPart) (c : ClassId) → AreObjectsLaid h rows g → IsLeafMade h g.classes a t →
    IsPartMade h g.classes p c → IsDynamic h c → AreDisjoint (leaf_bits h (places_of h rows) g a) (pointer_span (address h (places_of h rows) g p))

-- the virtual pointers of two complete objects have no byte in common
abbrev pub PointersOfOthersLieApart : Classes → List ClassLayout → Heap → Type 0
PointersOfOthersLieApart h rows g = (p q : ObjectPart) (c d : ClassId) → AreObjectsLaid h rows g → IsPartMade h g.classes p c → IsPartMade h g.classes q d →
    IsDynamic h c → IsDynamic h d → ((p.object ≡ q.object) × (p.owner ≡ q.owner) → ⊥) →
    AreApart (address h (places_of h rows) g p) 8 (address h (places_of h rows) g q) 8

-- the virtual pointers of one complete object have no byte in common where neither subobject is in the chain of the other
abbrev pub PointersOfOneLieApart : Classes → List ClassLayout → Heap → Type 0
PointersOfOneLieApart h rows g = (p q : ObjectPart) (c d e : ClassId) → AreObjectsLaid h rows g → IsPartMade h g.classes p c → IsPartMade h g.classes q d →
    IsDynamic h c → IsDynamic h d → p.object ≡ q.object → p.owner ≡ q.owner → owner_class h g.classes p.object p.owner ≡ Some e →
    IsInChain (places_of h rows) e p.at q.at ⊎ (IsInChain (places_of h rows) e q.at p.at ⊎ AreApart (address h (places_of h rows) g p) 8 (address h (places_of h rows) g q) 8)

-- all subobjects of a chain lie at one address
abbrev pub ChainsShareAnAddress : Classes → List ClassLayout → Heap → Type 0
ChainsShareAnAddress h rows g = (p : ObjectPart) (c e : ClassId) (s : Subobject) → AreObjectsLaid h rows g → IsPartMade h g.classes p c →
    owner_class h g.classes p.object p.owner ≡ Some e → IsInChain (places_of h rows) e p.at s →
    address h (places_of h rows) g (part p.object p.owner s) ≡ address h (places_of h rows) g p

-- the region of an object that is open can be closed where the object starts
abbrev pub OpenObjectsClose : Classes → List ClassLayout → Heap → Type 0
OpenObjectsClose h rows g = (regions : List Region) (r : Region) (k : ℕ) (c : ClassId) (start : ℕ) → AreObjectsLaid h rows g →
    AreRegions (places_of h rows) g regions → IsObject g k c start → slice_get regions k ≡ Some r → r.is_open ≡ true →
    close_fault regions start ≡ None

-- the bits of a leaf lie in the 8 bytes from its address on
abbrev pub LeafBitsLieNear : Classes → List ClassLayout → Heap → Type 0
LeafBitsLieNear h rows g = (a : Leaf) (c : ClassId) (t : ValueType ClassId) → AreObjectsLaid h rows g → IsPartMade h g.classes a.part c →
    IsElement h c a.member a.index (Value t) →
    ((places_of h rows).first c a.member < 8) × ((places_of h rows).first c a.member + bits_of_value (width_of_member h c a.member) t ≤ 64)
