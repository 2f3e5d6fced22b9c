-- Where the parts of an object lie, at every depth: bases, members, elements, and what those have in turn.
use Rattle.std.specs.Prelude.{ℕ, ◌+◌, ◌*◌, ◌≤◌, ◌⊎◌, Option, Some, None, List, [], ◌∷◌, slice_get}
use Rattle.cxx_hierarchy.specs.declared.records.ClassId.{ClassId}
use Rattle.cxx_hierarchy.specs.declared.records.Member.{Member}
use Rattle.cxx_hierarchy.specs.declared.records.FieldType.{FieldType}
use Rattle.cxx_hierarchy.specs.declared.records.ValueType.{ValueType}
use Rattle.cxx_hierarchy.specs.declared.records.FieldType.TheVariants.{Value, Object}
use Rattle.cxx_hierarchy.specs.Classes.{Classes, members_of}
use Rattle.cxx_subobject.specs.declared.Subobject.{Subobject}
use Rattle.cxx_subobject.specs.Subobjects.{class_of}
use Rattle.cxx_subobject.specs.declared.locations.Hop.{Hop}
use Rattle.cxx_subobject.specs.declared.locations.Hop.TheVariants.{Inherit, Member as MemberHop}
use Rattle.cxx_subobject.specs.Locations.{Step}
use Rattle.abi_sound.specs.Places.{Places, size_of_value}

-- how many bytes an element of this type takes
abbrev pub size_of_type : Places → FieldType ClassId → ℕ
size_of_type l (Value type) = size_of_value type
size_of_type l (Object e) = l.size e

abbrev pub stride_in : Places → Option (Member ClassId) → ℕ
stride_in l None = 0
stride_in l (Some member) = size_of_type l member.ty

-- the place of an element in an object of the class that declares the member: the member's place, and the elements
-- before it
abbrev pub element_place : Classes → Places → Option ClassId → ℕ → ℕ → ℕ
element_place h l None m i = 0
element_place h l (Some d) m i = l.member d m + i * stride_in l (slice_get (members_of h d) m)

abbrev pub class_of_type : FieldType ClassId → Option ClassId
class_of_type (Value type) = None
class_of_type (Object e) = Some e

abbrev pub class_of_member : Option (Member ClassId) → Option ClassId
class_of_member None = None
class_of_member (Some member) = class_of_type member.ty

-- the class of which a member's elements are objects, where they are
abbrev pub element_class : Classes → Option ClassId → ℕ → Option ClassId
element_class h None m = None
element_class h (Some d) m = class_of_member (slice_get (members_of h d) m)

abbrev pub base_place_in : Places → Option ClassId → Subobject → ℕ
base_place_in l None s = 0
base_place_in l (Some c) s = l.place c s

-- the sum of the places along hops from an object of a class: of base subobjects in their object, and of elements in
-- the class that declares the member
abbrev pub place_behind : Classes → Places → Option ClassId → List Hop → ℕ
place_behind h l c [] = 0
place_behind h l c (Inherit s ∷ hops) = base_place_in l c s + place_behind h l (class_of s) hops
place_behind h l c (MemberHop m i ∷ hops) = element_place h l c m i + place_behind h l (element_class h c m) hops

-- the place of a location in an object of class c
abbrev pub place_along_hops : Classes → Places → ClassId → List Hop → ℕ
place_along_hops h l c hops = place_behind h l (Some c) hops

-- the member in which hops end that begin in what is of class c: the class that declares it, and its number there
abbrev pub last_member : Classes → Option ClassId → List Hop → Option (ClassId × ℕ)
last_member h c [] = None
last_member h c (Inherit s ∷ hops) = last_member h (class_of s) hops
last_member h None (MemberHop m i ∷ hops) = None
last_member h (Some d) (MemberHop m i ∷ []) = Some (d, m)
last_member h (Some d) (MemberHop m i ∷ hop ∷ hops) = last_member h (element_class h (Some d) m) (hop ∷ hops)

-- so many bits from one on, counted from the first bit of an object
pub record Span : Type 0 where
  pub start : ℕ
  pub length : ℕ

-- no bit is one of both
abbrev pub AreDisjoint : Span → Span → Type 0
AreDisjoint a b = (a.start + a.length ≤ b.start) ⊎ (b.start + b.length ≤ a.start)

-- the bits of a value: as many as a bit-field is wide, else those of all its bytes (ISO C++03 9.6)
abbrev pub bits_of_value : Option ℕ → ValueType ClassId → ℕ
bits_of_value None type = 8 * size_of_value type
bits_of_value (Some n) type = n

abbrev pub bits_of_type : Option ℕ → FieldType ClassId → ℕ
bits_of_type width (Value type) = bits_of_value width type
bits_of_type width (Object e) = 0

abbrev pub bits_of_member : Option (Member ClassId) → ℕ
bits_of_member None = 0
bits_of_member (Some member) = bits_of_type member.width member.ty

-- the bits of an element of the member m of class d, where that lies at a place of its object
abbrev pub member_span : Classes → Places → ClassId → ℕ → ℕ → Span
member_span h l d m place = record { start = 8 * place + l.first d m; length = bits_of_member (slice_get (members_of h d) m) }

abbrev pub span_of : Classes → Places → ℕ → Option (ClassId × ℕ) → Span
span_of h l place None = record { start = 8 * place; length = 0 }
span_of h l place (Some member) = member_span h l member.0 member.1 place

-- the bits of the number or pointer to which hops lead from an object of class c
abbrev pub leaf_span : Classes → Places → ClassId → List Hop → Span
leaf_span h l c hops = span_of h l (place_along_hops h l c hops) (last_member h (Some c) hops)

-- the bits of a virtual pointer at a place
abbrev pub pointer_span : ℕ → Span
pointer_span place = record { start = 8 * place; length = 64 }

-- the class of the complete object that the steps, innermost first, lead to in an object of class c
abbrev pub class_at_steps : Classes → ClassId → List Step → Option ClassId
class_at_steps h c [] = Some c
class_at_steps h c (step ∷ rest) = element_class h (class_of step.base) step.member

-- the place of that complete object
abbrev pub owner_place : Classes → Places → ClassId → List Step → ℕ
owner_place h l c [] = 0
owner_place h l c (step ∷ rest) = owner_place h l c rest + (base_place_in l (class_at_steps h c rest) step.base + element_place h l (class_of step.base) step.member step.index)
