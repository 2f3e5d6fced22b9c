-- Where things lie, in bytes, by the rows of a layout.
use Rattle.std.specs.Prelude.{ℕ, ◌+◌, nat_eq, Option, Some, None, List, [], ◌∷◌, filter, get_or, position, slice_get}
use Rattle.cxx_hierarchy.specs.declared.records.ClassId.{ClassId}
use Rattle.cxx_hierarchy.specs.declared.records.Base.{Base}
use Rattle.cxx_hierarchy.specs.declared.records.ValueType.{ValueType}
use Rattle.cxx_hierarchy.specs.declared.records.ValueType.TheVariants.{Number, Pointer}
use Rattle.cxx_hierarchy.specs.Declarations.{is_plain_base}
use Rattle.cxx_hierarchy.specs.Scalars.{size_of}
use Rattle.cxx_hierarchy.specs.Classes.{Classes, bases_of}
use Rattle.cxx_subobject.specs.declared.Root.{Root}
use Rattle.cxx_subobject.specs.declared.Root.TheVariants.{Whole, Shared}
use Rattle.cxx_subobject.specs.declared.Subobject.{Subobject}
use Rattle.abi_primary.specs.declared.Primary.{Primary}
use Rattle.abi_primary.specs.declared.Primary.TheVariants.{None as NoPrimary}
use Rattle.abi_sound.specs.declared.class_layout.ClassLayout.{ClassLayout}
use Rattle.abi_sound.specs.declared.class_layout.Bits.{Bits}

-- the size of a class, its alignment, its alignment as a base, the place of a subobject in an object of the class,
-- and the place of a member in an object of the class that declares it, with the first bit of its value in the byte there; the
-- primary base of a class, and the subobject of a class that holds a virtual base of it
pub record Places : Type 0 where
  pub size : ClassId → ℕ
  pub align : ClassId → ℕ
  pub base_align : ClassId → ℕ
  pub place : ClassId → Subobject → ℕ
  pub member : ClassId → ℕ → ℕ
  pub first : ClassId → ℕ → ℕ
  pub primary : ClassId → Primary
  pub holder : ClassId → ClassId → Option Subobject

-- how many bytes a value takes, which is its alignment too
abbrev pub size_of_value : ValueType ClassId → ℕ
size_of_value (Number t) = size_of t
size_of_value (Pointer c) = 8

abbrev pub place_or_zero : Option ℕ → ℕ
place_or_zero None = 0
place_or_zero (Some n) = n

abbrev pub size_in_row : Option ClassLayout → ℕ
size_in_row None = 0
size_in_row (Some row) = row.size

abbrev pub align_in : Option ClassLayout → ℕ
align_in None = 1
align_in (Some row) = row.align

abbrev pub nvalign_in : Option ClassLayout → ℕ
nvalign_in None = 1
nvalign_in (Some row) = row.nvalign

abbrev pub base_places_in : Option ClassLayout → List ℕ
base_places_in None = []
base_places_in (Some row) = row.base_places

abbrev pub member_places_in : Option ClassLayout → List ℕ
member_places_in None = []
member_places_in (Some row) = row.member_places

abbrev pub nth_place : List ℕ → Option ℕ → ℕ
nth_place places None = 0
nth_place places (Some n) = place_or_zero (slice_get places n)

-- the place of a direct non-virtual base in its class
abbrev pub direct_base_place : Classes → List ClassLayout → ClassId → ClassId → ℕ
direct_base_place h rows c b = nth_place (base_places_in (slice_get rows c.0)) (position (λ (base : Base ClassId). nat_eq base.class.0 b.0) (filter is_plain_base (bases_of h c)))

-- the sum of the places along a path
abbrev pub place_along : Classes → List ClassLayout → ClassId → List ClassId → ℕ
place_along h rows c [] = 0
place_along h rows c (b ∷ path) = direct_base_place h rows c b + place_along h rows b path

abbrev pub primary_in : Option ClassLayout → Primary
primary_in None = NoPrimary
primary_in (Some row) = row.primary

abbrev pub nth_holder : List (Option Subobject) → Option ℕ → Option Subobject
nth_holder holders None = None
nth_holder holders (Some n) = get_or holders n None

abbrev pub holder_in : Option ClassLayout → ClassId → Option Subobject
holder_in None v = None
holder_in (Some row) v = nth_holder row.holders (position (λ (w : ClassId). nat_eq w.0 v.0) row.virtual_bases)

abbrev pub virtual_places_in : Option ClassLayout → List ℕ
virtual_places_in None = []
virtual_places_in (Some row) = row.virtual_places

abbrev pub virtual_bases_in : Option ClassLayout → List ClassId
virtual_bases_in None = []
virtual_bases_in (Some row) = row.virtual_bases

abbrev pub virtual_place_in : Option ClassLayout → ClassId → ℕ
virtual_place_in row v = nth_place (virtual_places_in row) (position (λ (w : ClassId). nat_eq w.0 v.0) (virtual_bases_in row))

-- the place of a virtual base in an object of class c
abbrev pub virtual_place : List ClassLayout → ClassId → ClassId → ℕ
virtual_place rows c v = virtual_place_in (slice_get rows c.0) v

abbrev pub place_from : Classes → List ClassLayout → List ClassId → ℕ
place_from h rows [] = 0
place_from h rows (d ∷ path) = place_along h rows d path

abbrev pub root_place_in : Option ClassLayout → Root → ℕ
root_place_in row Whole = 0
root_place_in row (Shared v) = virtual_place_in row v

abbrev pub root_place : List ClassLayout → ClassId → Root → ℕ
root_place rows c root = root_place_in (slice_get rows c.0) root

-- the place of a subobject in an object of class c: where its root lies, and the places along its path
abbrev pub place_in_class : Classes → List ClassLayout → ClassId → Subobject → ℕ
place_in_class h rows c s = root_place rows c s.root + place_from h rows s.path

-- the place of a member in an object of the class that declares it
abbrev pub member_place : List ClassLayout → ClassId → ℕ → ℕ
member_place rows d m = place_or_zero (slice_get (member_places_in (slice_get rows d.0)) m)

abbrev pub member_bits_in : Option ClassLayout → List Bits
member_bits_in None = []
member_bits_in (Some row) = row.member_bits

abbrev pub first_bit_in : Option Bits → ℕ
first_bit_in None = 0
first_bit_in (Some bits) = bits.first

-- the first bit of the value of a member, in the byte at its place
abbrev pub first_bit : List ClassLayout → ClassId → ℕ → ℕ
first_bit rows d m = first_bit_in (slice_get (member_bits_in (slice_get rows d.0)) m)

-- the places that rows give
abbrev pub places_of : Classes → List ClassLayout → Places
places_of h rows = record {
  size = λ c. size_in_row (slice_get rows c.0);
  align = λ c. align_in (slice_get rows c.0);
  base_align = λ c. nvalign_in (slice_get rows c.0);
  place = λ c s. place_in_class h rows c s;
  member = λ d m. member_place rows d m;
  first = λ d m. first_bit rows d m;
  primary = λ c. primary_in (slice_get rows c.0);
  holder = λ c v. holder_in (slice_get rows c.0) v;
}
