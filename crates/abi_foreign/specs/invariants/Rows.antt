-- The rows with the numbers of a listing, as they are written.
use Rattle.std.specs.Prelude.{ℕ, zero, suc, ◌*◌, ◌-◌, ◌^◌, min, Option, Some, None, List, [], ◌∷◌, ◌++◌, filter, map, position, slice_get}
use Rattle.std.specs.List.{filter_map, find}
use Rattle.cxx_hierarchy.specs.declared.records.Base.{Base}
use Rattle.cxx_hierarchy.specs.declared.records.ClassId.{ClassId}
use Rattle.cxx_hierarchy.specs.declared.records.Member.{Member}
use Rattle.cxx_hierarchy.specs.declared.records.FieldType.{FieldType}
use Rattle.cxx_hierarchy.specs.declared.records.FieldType.TheVariants.{Value, Object}
use Rattle.cxx_hierarchy.specs.Declarations.{is_plain_base, elements_of}
use Rattle.cxx_hierarchy.specs.Classes.{Classes, bases_of, members_of, class_by_number}
use Rattle.cxx_subobject.specs.declared.Root.TheVariants.{Whole}
use Rattle.cxx_subobject.specs.declared.Subobject.{Subobject}
use Rattle.cxx_subobject.specs.Subobjects.{subobject, shared_base, same_subobject}
use Rattle.cxx_subobject.specs.VirtualBases.{shared_class}
use Rattle.abi_primary.specs.declared.Primary.{Primary}
use Rattle.abi_primary.specs.PrimaryBase.{has_primary}
use Rattle.abi_sound.specs.declared.class_layout.ClassLayout.{ClassLayout}
use Rattle.abi_sound.specs.declared.class_layout.Bits.{Bits}
use Rattle.abi_sound.specs.Places.{nth_place, size_of_value}
use Rattle.abi_print.specs.LayoutTexts.{proper}
use Rattle.abi_print.specs.Texts.{PlaceOf}
use Rattle.abi_foreign.specs.declared.said.MemberPlace.{MemberPlace}
use Rattle.abi_foreign.specs.declared.said.ClassSaid.{ClassSaid}
use Rattle.abi_foreign.specs.Listings.{cut_bits}

-- the place that the lines of a class say of a base subobject
abbrev pub said_base_place : ClassSaid → Subobject → ℕ
said_base_place said s = nth_place said.places (position (λ (t : Subobject). same_subobject t s) (proper said.list))

abbrev pub printed_in : Option ClassSaid → Subobject → ℕ
printed_in None s = 0
printed_in (Some said) s = said_base_place said s

-- the places that a listing says
abbrev pub said_place : List ClassSaid → PlaceOf
said_place saids c s = printed_in (slice_get saids c.0) s

abbrev pub direct_base : ClassId → ClassId → Subobject
direct_base c b = subobject Whole (c ∷ b ∷ [])

abbrev pub size_said : Option ClassSaid → ℕ
size_said None = 0
size_said (Some said) = said.sizes.size

abbrev pub said_size : List ClassSaid → FieldType ClassId → ℕ
said_size saids (Value type) = size_of_value type
said_size saids (Object e) = size_said (slice_get saids e.0)

abbrev pub width_said : Option ℕ → ℕ → ℕ → ℕ
width_said (Some n) count size = n
width_said None count size = min (min (count * size) (2 ^ 32 - 1) * 8) (2 ^ 32 - 1)

abbrev pub said_width : List ClassSaid → Member ClassId → ℕ
said_width saids member = width_said member.width (elements_of member.count) (said_size saids member.ty)

abbrev pub exact_at : List ClassSaid → Member ClassId → MemberPlace → Bits
exact_at saids member at = record { first = at.first; width = said_width saids member }

abbrev pub cut_bits_at : List ClassSaid → Member ClassId → MemberPlace → Bits
cut_bits_at saids member at = cut_bits (exact_at saids member at)

-- the bits of members, with the first bits that their lines say
abbrev pub exact_bits : List ClassSaid → List (Member ClassId) → List MemberPlace → List Bits
exact_bits saids [] places = []
exact_bits saids (member ∷ members) [] = []
exact_bits saids (member ∷ members) (at ∷ places) = exact_at saids member at ∷ exact_bits saids members places

-- the primary bases of all classes
abbrev pub primaries_of : List ClassSaid → List Primary
primaries_of saids = map (λ (said : ClassSaid). said.primary) saids

-- the row of a class, with the numbers that its lines say
abbrev pub exact_row : Classes → List ClassSaid → List Primary → ClassId → ClassSaid → ClassLayout
exact_row h saids primaries c said = record {
  size = said.sizes.size;
  align = said.sizes.align;
  dsize = said.sizes.dsize;
  nvsize = said.sizes.nvsize;
  nvalign = said.sizes.nvalign;
  primary = said.primary;
  base_places = map (λ (b : Base ClassId). said_base_place said (direct_base c b.class)) (filter is_plain_base (bases_of h c));
  virtual_bases = filter_map shared_class said.list;
  virtual_places = map (λ (v : ClassId). said_base_place said (shared_base v)) (filter_map shared_class said.list);
  holders = map (λ (v : ClassId). find (has_primary primaries v) said.list) (filter_map shared_class said.list);
  member_places = map (λ (at : MemberPlace). at.place) said.members;
  member_bits = exact_bits saids (members_of h c) said.members;
}

abbrev pub exact_row_in : Classes → List ClassSaid → ClassId → Option ClassSaid → List ClassLayout
exact_row_in h saids c None = []
exact_row_in h saids c (Some said) = exact_row h saids (primaries_of saids) c said ∷ []

-- the rows of the first classes, as many as are asked for
abbrev pub exact_rows : Classes → List ClassSaid → ℕ → List ClassLayout
exact_rows h saids zero = []
exact_rows h saids (suc n) = exact_rows h saids n ++ exact_row_in h saids (class_by_number n) (slice_get saids n)
