-- Where a location lies by a layout, and the name, type and bits of a leaf.
use Rattle.std.specs.Prelude.{ℕ, ◌<◌, Option, Some, None, List, [], ◌∷◌, ◌++◌, codes, length, slice_get, option_and_then}
use Rattle.std.specs.Fmt.{decimal}
use Rattle.std.specs.Option.{option_or, option_map_or}
use Rattle.cxx_hierarchy.specs.declared.records.ClassId.{ClassId}
use Rattle.cxx_hierarchy.specs.declared.records.Member.{Member}
use Rattle.cxx_hierarchy.specs.declared.records.FieldType.{FieldType}
use Rattle.cxx_hierarchy.specs.declared.records.FieldType.TheVariants.{Object}
use Rattle.cxx_hierarchy.specs.declared.records.ValueType.{ValueType}
use Rattle.cxx_hierarchy.specs.Classes.{Classes, members_of, width_of_member, element_type}
use Rattle.cxx_subobject.specs.declared.locations.Hop.{Hop}
use Rattle.cxx_subobject.specs.declared.locations.Hop.TheVariants.{Inherit, Member as MemberHop}
use Rattle.cxx_subobject.specs.declared.locations.Location.{Location}
use Rattle.cxx_subobject.specs.Subobjects.{class_of}
use Rattle.cxx_subobject.specs.Locations.{LeadsTo}
use Rattle.abi_sound.specs.Places.{Places}
use Rattle.abi_sound.specs.Locations.{place_along_hops, element_class}
use Rattle.abi_print.specs.LayoutTexts.{subobject_text}
use Rattle.abi_print.specs.Texts.{location_text}

-- a location names a part of this type in an object of a class of the hierarchy
pub record Names (h : Classes) (type : FieldType ClassId) (at : Location) : Type 0 where
  pub known : at.class.0 < length h
  pub leads : LeadsTo h at.class at.hops type

-- a location names a class subobject
abbrev pub NamesPart : Classes → Location → Type 0
NamesPart h at = (d : ClassId) × Names h (Object d) at

-- the place of a location in its heap object, in bytes
abbrev pub location_place : Classes → Places → Location → ℕ
location_place h l at = place_along_hops h l at.class at.hops

-- `#n+off`: the number of the heap object, and the place in it
abbrev pub part_text : Classes → Places → Location → List ℕ
part_text h l at = location_text at.object (location_place h l at)

-- the member of a number of a class
abbrev pub member_at : Classes → Option ClassId → ℕ → Option (Member ClassId)
member_at h class m = option_and_then (λ d. slice_get (members_of h d) m) class

-- the subobject that declares a field, and nothing where that is the whole
abbrev pub before_field : List ℕ → List ℕ
before_field [] = []
before_field (x ∷ text) = x ∷ text ++ codes "::"

abbrev pub index_text : Option ℕ → ℕ → List ℕ
index_text array i = option_map_or (λ count. codes "[" ++ decimal i ++ codes "]") array []

-- a member by its name, and an element of an array by its index behind that
abbrev pub element_name_text : Option (Member ClassId) → ℕ → List ℕ
element_name_text declared i = option_map_or (λ member. member.name ++ index_text member.count i) declared []

-- the field to which the hops lead from what is of class c: inside a member it follows a `.`
abbrev pub inner_text : Classes → Option ClassId → List Hop → List ℕ
inner_text h c [] = []
inner_text h c (Inherit s ∷ hops) = codes "." ++ before_field (subobject_text h s) ++ inner_text h (class_of s) hops
inner_text h c (MemberHop m i ∷ hops) = element_name_text (member_at h c m) i ++ inner_text h (element_class h c m) hops

-- a field of a complete object
abbrev pub field_name_text : Classes → List Hop → List ℕ
field_name_text h (Inherit s ∷ hops) = before_field (subobject_text h s) ++ inner_text h (class_of s) hops
field_name_text h other = []

-- the type of the leaf to which the hops lead from what is of class c
abbrev pub type_behind : Classes → Option ClassId → List Hop → Option (ValueType ClassId)
type_behind h c [] = None
type_behind h c (Inherit s ∷ hops) = type_behind h (class_of s) hops
type_behind h c (MemberHop m i ∷ hops) = option_or (type_behind h (element_class h c m) hops) (element_type (member_at h c m))

-- the width of a member, by the class that declares it and its number there, where it is a bit-field (ISO C++03 9.6)
abbrev pub bit_field_width : Classes → Option (ClassId × ℕ) → Option ℕ
bit_field_width h leaf = option_and_then (λ member. width_of_member h member.0 member.1) leaf

-- the first bit of the value of a member, in the byte at its place
abbrev pub first_value_bit : Places → Option (ClassId × ℕ) → ℕ
first_value_bit l leaf = option_map_or (λ member. l.first member.0 member.1) leaf 0
