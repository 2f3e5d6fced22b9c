-- What every layout has to keep, whatever rules made it (Itanium C++ ABI 2.2, 2.4; ISO C++03 1.8, 9.2, 10).
use Rattle.std.specs.Prelude.{◌≡◌, ℕ, ◌+◌, ◌*◌, ◌<◌, ◌≤◌, ◌⊎◌, Bool, false, Option, Some, None, List, [], ◌∷◌, ◌++◌, length, filter, slice_get}
use Rattle.std.specs.List.{find}
use Rattle.cxx_hierarchy.specs.declared.records.ClassId.{ClassId}
use Rattle.cxx_hierarchy.specs.declared.records.ValueType.{ValueType}
use Rattle.cxx_hierarchy.specs.declared.records.FieldType.TheVariants.{Value, Object}
use Rattle.cxx_hierarchy.specs.Classes.{Classes, bases_of, members_of, width_of_member}
use Rattle.cxx_hierarchy.specs.VirtualBases.{IsDirectBase, HasVirtualBase}
use Rattle.cxx_subobject.specs.declared.Subobject.{Subobject}
use Rattle.cxx_subobject.specs.Subobjects.{IsSubobject, class_of, whole_of}
use Rattle.cxx_subobject.specs.Preorder.{preorder}
use Rattle.abi_primary.specs.declared.Primary.TheVariants.{Direct, Virtual}
use Rattle.abi_primary.specs.Kinds.{IsDynamic}
use Rattle.abi_primary.specs.PrimaryBase.{is_virtual_primary}
use Rattle.abi_sound.specs.declared.class_layout.ClassLayout.{ClassLayout}
use Rattle.cxx_subobject.specs.declared.locations.Hop.{Hop}
use Rattle.cxx_subobject.specs.declared.locations.Hop.TheVariants.{Inherit}
use Rattle.cxx_subobject.specs.VirtualBases.{virtual_bases}
use Rattle.cxx_subobject.specs.Locations.{LeadsTo}
use Rattle.cxx_hierarchy.specs.Declarations.{is_plain_base}
use Rattle.abi_sound.specs.Places.{Places, places_of, size_of_value}
use Rattle.abi_sound.specs.Locations.{place_along_hops, last_member, leaf_span, pointer_span, AreDisjoint}
use Rattle.abi_sound.specs.Chains.{primary_part, ShareChain}

-- n is a multiple of d
pub record Divides (d n : ℕ) : Type 0 where
  pub times : ℕ
  pub is : n ≡ times * d

-- the row tells of each direct non-virtual base, each virtual base, in preorder, and each member of its class
pub record IsFullRow (h : Classes) (c : ClassId) (row : ClassLayout) : Type 0 where
  pub each_base : length row.base_places ≡ length (filter is_plain_base (bases_of h c))
  pub virtuals : row.virtual_bases ≡ virtual_bases h c
  pub each_virtual : length row.virtual_places ≡ length (virtual_bases h c)
  pub each_holder : length row.holders ≡ length (virtual_bases h c)
  pub each_member : length row.member_places ≡ length (members_of h c)
  pub each_bits : length row.member_bits ≡ length (members_of h c)

-- there is such a row for each class
pub record AreFullRows (h : Classes) (rows : List ClassLayout) : Type 0 where
  pub one_each : length rows ≡ length h
  pub each : (c : ClassId) (row : ClassLayout) → slice_get rows c.0 ≡ Some row → IsFullRow h c row

-- a number or a pointer lies at a multiple of its size, which is its alignment, and fills its bytes; a bit-field begins in the byte
-- at its place, and ends in the 8 bytes from there
abbrev pub IsAligned : Option ℕ → ValueType ClassId → (place first : ℕ) → Type 0
IsAligned None type place first = Divides (size_of_value type) place × (first ≡ 0)
IsAligned (Some n) type place first = (first < 8) × (first + n ≤ 64)

-- the virtual base is the primary base of the class, where there is one
abbrev pub is_primary_of : Places → ClassId → Option ClassId → Bool
is_primary_of l v None = false
is_primary_of l v (Some d) = is_virtual_primary (l.primary d) v

-- the bytes of an object of a class
abbrev pub most_class_bytes : ℕ
most_class_bytes = 1048576

-- the laws of an object of class c, at every depth of its bases, members and elements
pub record IsSoundClass (h : Classes) (l : Places) (c : ClassId) : Type 0 where
  -- a primary base is a direct non-virtual base or a virtual base, and dynamic
  pub direct : (b : ClassId) → l.primary c ≡ Direct b → IsDirectBase h c false b × IsDynamic h b
  pub virtual : (v : ClassId) → l.primary c ≡ Virtual v → HasVirtualBase h c v × IsDynamic h v
  -- the holder of a virtual base is the first subobject in preorder whose primary base it is, or there is none
  pub holder : (v : ClassId) → HasVirtualBase h c v → l.holder c v ≡ find (λ (s : Subobject). is_primary_of l v (class_of s)) (preorder h c)
  -- a size is at least 1 and at most 1,048,576
  pub positive : 1 ≤ l.size c
  pub bounded : l.size c ≤ most_class_bytes
  -- a subobject and its primary base have one place; a place is by definition the sum along a path
  pub one_place : (s t : Subobject) → IsSubobject h c s → primary_part l c s ≡ Some t → l.place c t ≡ l.place c s
  -- a number or a pointer is aligned, a base lies at a multiple of its class's alignment as a base, and a member or an element at one
  -- of its class's alignment
  pub aligned : (type : ValueType ClassId) (hops : List Hop) (d : ClassId) (m : ℕ) → LeadsTo h c hops (Value type) → last_member h (Some c) hops ≡ Some (d, m) → IsAligned (width_of_member h d m) type (place_along_hops h l c hops) (l.first d m)
  pub base_multiple : (d : ClassId) (front : List Hop) (s : Subobject) → LeadsTo h c (front ++ Inherit s ∷ []) (Object d) → (s ≡ whole_of d → ⊥) → Divides (l.base_align d) (place_along_hops h l c (front ++ Inherit s ∷ []))
  pub object_multiple : (d : ClassId) (front : List Hop) → LeadsTo h c (front ++ Inherit (whole_of d) ∷ []) (Object d) → Divides (l.align d) (place_along_hops h l c (front ++ Inherit (whole_of d) ∷ []))
  -- numbers, pointers and the 8 bytes of virtual pointers lie inside, and a class subobject begins inside
  pub leaf_inside : (type : ValueType ClassId) (hops : List Hop) → LeadsTo h c hops (Value type) → (leaf_span h l c hops).start + (leaf_span h l c hops).length ≤ 8 * l.size c
  pub pointer_inside : (d : ClassId) (hops : List Hop) → IsDynamic h d → LeadsTo h c hops (Object d) → place_along_hops h l c hops + 8 ≤ l.size c
  pub begins_inside : (d : ClassId) (hops : List Hop) → LeadsTo h c hops (Object d) → place_along_hops h l c hops < l.size c
  -- two numbers or pointers have no bit in common, nor have such a one and a virtual pointer, nor those of two chains
  pub leaves_apart : (type other : ValueType ClassId) (hops others : List Hop) → LeadsTo h c hops (Value type) → LeadsTo h c others (Value other) → (hops ≡ others → ⊥) → AreDisjoint (leaf_span h l c hops) (leaf_span h l c others)
  pub leaf_and_pointer : (d : ClassId) (type : ValueType ClassId) (hops others : List Hop) → IsDynamic h d → LeadsTo h c hops (Object d) → LeadsTo h c others (Value type) → AreDisjoint (pointer_span (place_along_hops h l c hops)) (leaf_span h l c others)
  pub pointers_apart : (d e : ClassId) (hops others : List Hop) → IsDynamic h d → IsDynamic h e → LeadsTo h c hops (Object d) → LeadsTo h c others (Object e) →
      ShareChain h l c hops others ⊎ AreDisjoint (pointer_span (place_along_hops h l c hops)) (pointer_span (place_along_hops h l c others))
  -- two subobjects of one class begin at different places
  pub distinct : (d : ClassId) (hops others : List Hop) → LeadsTo h c hops (Object d) → LeadsTo h c others (Object d) → place_along_hops h l c hops ≡ place_along_hops h l c others → hops ≡ others

-- the rows are a sound layout of the hierarchy
pub record IsSoundLayout (h : Classes) (rows : List ClassLayout) : Type 0 where
  pub full : AreFullRows h rows
  pub each : (c : ClassId) → c.0 < length h → IsSoundClass h (places_of h rows) c
