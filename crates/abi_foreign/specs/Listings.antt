-- What a listing is, and the layout that it stands for.
use Rattle.std.specs.Prelude.{◌≡◌, ℕ, zero, suc, ◌-◌, ◌*◌, ◌^◌, ◌<◌, ◌≤◌, false, min, All, Contains, Option, Some, None, List, [], ◌∷◌, ◌++◌, length, map, slice_get}
use Rattle.std.specs.List.{find}
use Rattle.cxx_hierarchy.specs.declared.records.ClassId.{ClassId}
use Rattle.cxx_hierarchy.specs.declared.records.Member.{Member}
use Rattle.cxx_hierarchy.specs.Declarations.{elements_of}
use Rattle.cxx_hierarchy.specs.Classes.{Classes, members_of, class_by_number}
use Rattle.cxx_hierarchy.specs.VirtualBases.{IsDirectBase, HasVirtualBase}
use Rattle.cxx_subobject.specs.declared.Root.TheVariants.{Whole}
use Rattle.cxx_subobject.specs.declared.Subobject.{Subobject}
use Rattle.cxx_subobject.specs.Subobjects.{subobject, shared_base, class_of}
use Rattle.cxx_subobject.specs.Preorder.{preorder}
use Rattle.abi_sound.specs.declared.class_layout.ClassLayout.{ClassLayout}
use Rattle.abi_sound.specs.declared.class_layout.Bits.{Bits}
use Rattle.abi_sound.specs.Places.{Places, places_of, direct_base_place, virtual_place, member_bits_in}
use Rattle.abi_sound.specs.Locations.{size_of_type}
use Rattle.abi_sound.specs.Sound.{AreFullRows, IsSoundLayout, is_primary_of}
use Rattle.abi_print.specs.LayoutTexts.{layout_text, proper}
use Rattle.abi_print.specs.Texts.{PlaceOf}
use Rattle.abi_foreign.specs.Lines.{most_number, IsWritable}

-- the texts of the layouts of the first classes, as many as are asked for
abbrev pub texts_before : Classes → List ClassLayout → PlaceOf → ℕ → List ℕ
texts_before h rows place zero = []
texts_before h rows place (suc n) = texts_before h rows place n ++ layout_text h rows place (class_by_number n)

-- the numbers of a row are small enough for a listing
pub record HasSmallNumbers (row : ClassLayout) : Type 0 where
  pub sizes : (row.size ≤ most_number) × (row.align ≤ most_number) × (row.dsize ≤ most_number) × (row.nvsize ≤ most_number) × (row.nvalign ≤ most_number)
  pub members : All (λ (place : ℕ). place ≤ most_number) row.member_places
  pub bits : All (λ (bits : Bits). bits.first ≤ most_number) row.member_bits

-- the text is that of the layouts of all classes, in the order of the source, for these rows and places of base subobjects: any
-- numbers that are small enough, and any primary bases that a line may name
pub record IsListing (h : Classes) (text : List ℕ) (rows : List ClassLayout) (place : PlaceOf) : Type 0 where
  pub is : text ≡ texts_before h rows place (length h)
  pub full : AreFullRows h rows
  pub small : (c : ClassId) (row : ClassLayout) → slice_get rows c.0 ≡ Some row → HasSmallNumbers row
  pub near : (c : ClassId) (s : Subobject) → c.0 < length h → Contains (proper (preorder h c)) s → place c s ≤ most_number
  pub primaries : (c : ClassId) (row : ClassLayout) → slice_get rows c.0 ≡ Some row → IsWritable h row.primary

-- a row has a byte for a first bit: one above 255 stands as 255, and no layout is sound with either
abbrev pub cut_bits : Bits → Bits
cut_bits bits = record bits { first = min bits.first 255 }

abbrev pub cut_row : ClassLayout → ClassLayout
cut_row row = record row { member_bits = map cut_bits row.member_bits }

-- the rows of a layout with the numbers of a listing
abbrev pub cut_rows : List ClassLayout → List ClassLayout
cut_rows rows = map cut_row rows

-- how many bits a member has: a bit-field those of its width, another member those of all its bytes, as far as a row can tell
abbrev pub width_by : Option ℕ → ℕ → ℕ
width_by (Some n) bytes = n
width_by None bytes = min (8 * bytes) (2 ^ 32 - 1)

abbrev pub bits_width : Places → Member ClassId → ℕ
bits_width l member = width_by member.width (elements_of member.count * size_of_type l member.ty)

-- the bits of a member: none but a bit-field begins behind the first bit of its byte
pub record AreMemberBits (l : Places) (member : Member ClassId) (bits : Bits) : Type 0 where
  pub first : member.width ≡ None → bits.first ≡ 0
  pub width : bits.width ≡ bits_width l member

-- the rows have the direct non-virtual bases and the virtual bases at these places; and the holder of a virtual base is
-- the first subobject in preorder whose primary base it is, or there is none
pub record RowsHavePlaces (h : Classes) (rows : List ClassLayout) (place : PlaceOf) : Type 0 where
  pub bases : (c b : ClassId) → IsDirectBase h c false b → direct_base_place h rows c b ≡ place c (subobject Whole (c ∷ b ∷ []))
  pub virtuals : (c v : ClassId) → HasVirtualBase h c v → virtual_place rows c v ≡ place c (shared_base v)
  pub holders : (c v : ClassId) → HasVirtualBase h c v → (places_of h rows).holder c v ≡ find (λ (s : Subobject). is_primary_of (places_of h rows) v (class_of s)) (preorder h c)
  pub bits : (c : ClassId) (m : ℕ) (member : Member ClassId) (bits : Bits) → slice_get (members_of h c) m ≡ Some member → slice_get (member_bits_in (slice_get rows c.0)) m ≡ Some bits → AreMemberBits (places_of h rows) member bits

-- the text is a listing of these places, and the rows are the layout that it stands for
pub record ListsLayout (h : Classes) (text : List ℕ) (rows : List ClassLayout) (place : PlaceOf) : Type 0 where
  pub written : List ClassLayout
  pub listing : IsListing h text written place
  pub is : rows ≡ cut_rows written
  pub stands : RowsHavePlaces h rows place

-- each place of a base subobject of class c is the sum along its path
abbrev pub AreSums : Classes → List ClassLayout → PlaceOf → ClassId → Type 0
AreSums h rows place c = (s : Subobject) → Contains (proper (preorder h c)) s → place c s ≡ (places_of h rows).place c s

-- the text is a listing whose places are sums along paths, and the rows are the layout that it stands for, which is sound
pub record IsForeign (h : Classes) (text : List ℕ) (rows : List ClassLayout) : Type 0 where
  pub place : PlaceOf
  pub listed : ListsLayout h text rows place
  pub sums : (c : ClassId) → c.0 < length h → AreSums h rows place c
  pub sound : IsSoundLayout h rows

-- the rows are a sound layout that some listing stands for
pub record IsForeignLayout (h : Classes) (rows : List ClassLayout) : Type 0 where
  pub text : List ℕ
  pub of : IsForeign h text rows
