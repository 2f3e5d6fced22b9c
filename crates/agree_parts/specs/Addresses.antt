-- The addresses of the parts of heap objects, and of their leaves.
use Rattle.std.specs.Prelude.{ℕ, ◌+◌, ◌≤◌, ◌⊎◌, Option, Some, None, slice_get}
use Rattle.cxx_hierarchy.specs.declared.records.ClassId.{ClassId}
use Rattle.cxx_hierarchy.specs.Classes.{Classes}
use Rattle.cxx_subobject.specs.Subobjects.{class_of}
use Rattle.cxx_subobject.specs.Locations.{ObjectPart}
use Rattle.path_model.specs.Values.{Leaf}
use Rattle.abi_sound.specs.Places.{Places}
use Rattle.abi_sound.specs.Locations.{Span, base_place_in, element_place, class_at_steps, owner_place, span_of}
use Rattle.agree_parts.specs.Heaps.{Heap, object_start}

-- the place of a part in its object: that of the complete object to which its steps lead, and there that of the subobject
abbrev pub part_place : Classes → Places → Option ClassId → ObjectPart → ℕ
part_place h l None p = 0
part_place h l (Some c) p = owner_place h l c p.owner + base_place_in l (class_at_steps h c p.owner) p.at

-- the address of a part: where its object starts, and its place there
abbrev pub address : Classes → Places → Heap → ObjectPart → ℕ
address h l g p = object_start g p.object + part_place h l (slice_get g.classes p.object) p

-- the address of a leaf: that of its part, the place of the member in the part's class, and the elements before it
abbrev pub leaf_address : Classes → Places → Heap → Leaf → ℕ
leaf_address h l g a = address h l g a.part + element_place h l (class_of a.part.at) a.member a.index

abbrev pub span : ℕ → ℕ → Span
span start length = record { start = start; length = length }

-- the member m of a class, where there is a class
abbrev pub member_within : Option ClassId → ℕ → Option (ClassId × ℕ)
member_within None m = None
member_within (Some c) m = Some (c, m)

-- the bits of a leaf: as many as its member has, from the first bit of that in the byte at the address on (ISO C++03 9.6)
abbrev pub leaf_bits : Classes → Places → Heap → Leaf → Span
leaf_bits h l g a = span_of h l (leaf_address h l g a) (member_within (class_of a.part.at) a.member)

-- n bytes at one address and m bytes at another have none in common
abbrev pub AreApart : ℕ → ℕ → ℕ → ℕ → Type 0
AreApart a n b m = (a + n ≤ b) ⊎ (b + m ≤ a)
