-- What lies in an object, with all that the rules ask of it.
use Rattle.std.specs.Prelude.{ℕ, ◌+◌, ◌*◌, ◌%◌, ◌==◌, nat_lt, nat_le, Bool, true, false, not, ◌&&◌, ◌||◌, if◌then◌else◌, Option, Some, None, List, map}
use Rattle.cxx_hierarchy.specs.declared.records.ClassId.{ClassId}
use Rattle.cxx_hierarchy.specs.Classes.{Classes, width_of_member}
use Rattle.cxx_subobject.specs.declared.Subobject.{Subobject}
use Rattle.cxx_subobject.specs.Subobjects.{whole_of, same_subobject}
use Rattle.abi_primary.specs.Kinds.{flag_of}
use Rattle.abi_sound.specs.Places.{Places, places_of, size_of_value}
use Rattle.abi_sound.specs.Locations.{place_behind}
use Rattle.abi_sound.specs.Chains.{above}
use Rattle.abi_judge.specs.declared.things.Thing.{Thing}
use Rattle.abi_judge.specs.declared.things.Thing.TheVariants.{Leaf, Part}
use Rattle.abi_judge.specs.declared.things.PlacedLeaf.{PlacedLeaf}
use Rattle.abi_judge.specs.declared.things.PlacedPart.{PlacedPart}
use Rattle.abi_judge.specs.declared.apart.BitSpan.{BitSpan}
use Rattle.abi_judge.specs.declared.draft.Draft.{Draft}
use Rattle.abi_judge.specs.invariants.Ways.{End, to_leaf, to_part, Way}

-- a hierarchy with places, and flags that tell which classes are dynamic
pub record Setting : Type 0 where
  pub h : Classes
  pub l : Places
  pub dynamic : List Bool

abbrev pub setting_of : Draft → Setting
setting_of draft = record { h = draft.h.now; l = places_of draft.h.now draft.rows.now; dynamic = draft.dynamic.now }

-- the number of which the place of a subobject of class d has to be a multiple
abbrev pub align_of : Places → Subobject → ClassId → ℕ
align_of l s d = if same_subobject s (whole_of d) then l.align d else l.base_align d

abbrev pub is_none : Option Subobject → Bool
is_none None = true
is_none (Some s) = false

-- the subobject is the primary base of none, in an object of class e
abbrev pub is_top : Places → ClassId → Subobject → Bool
is_top l e s = is_none (above l e s)

abbrev pub leaf_thing : Setting → ℕ → ClassId → ℕ → ℕ → PlacedLeaf
leaf_thing x place d m size = record { place = place; first = x.l.first d m; size = size; width = width_of_member x.h d m }

abbrev pub part_thing : Setting → ℕ → ClassId → Subobject → ClassId → PlacedPart
part_thing x place e s d = record { class = d; place = place; align = align_of x.l s d; is_dynamic = flag_of x.dynamic d; is_top = is_top x.l e s }

-- what lies at the end of a way, at a place
abbrev pub thing_at : Setting → ℕ → End → Thing
thing_at x place (to_leaf d m type) = Leaf (leaf_thing x place d m (size_of_value type))
thing_at x place (to_part e s d) = Part (part_thing x place e s d)

-- what lies at the end of a way from an object of this class that lies at a place
abbrev pub thing_of : Setting → Option ClassId → ℕ → Way → Thing
thing_of x o at w = thing_at x (at + place_behind x.h x.l o w.hops) w.end

abbrev pub things_of : Setting → Option ClassId → ℕ → List Way → List Thing
things_of x o at ws = map (thing_of x o at) ws

-- what the rules ask of one thing

abbrev pub is_multiple : ℕ → ℕ → Bool
is_multiple align place = if align == 0 then place == 0 else (place % align == 0)

-- it lies at a multiple of its alignment, or the bit-field in the 8 bytes from its place on
abbrev pub is_leaf_fit : PlacedLeaf → Option ℕ → Bool
is_leaf_fit leaf None = is_multiple leaf.size leaf.place && (leaf.first == 0)
is_leaf_fit leaf (Some n) = nat_lt leaf.first 8 && nat_le (leaf.first + n) 64

abbrev pub is_fit : Thing → Bool
is_fit (Leaf leaf) = is_leaf_fit leaf leaf.width
is_fit (Part part) = is_multiple part.align part.place

-- the bits of a leaf
abbrev pub bits_of_leaf : ℕ → Option ℕ → ℕ
bits_of_leaf size None = 8 * size
bits_of_leaf size (Some n) = n

-- it lies inside so many bytes
abbrev pub fits_in_size : ℕ → Thing → Bool
fits_in_size size (Leaf leaf) = nat_le (8 * leaf.place + leaf.first + bits_of_leaf leaf.size leaf.width) (8 * size)
fits_in_size size (Part part) = nat_lt part.place size && (not part.is_dynamic || nat_le (part.place + 8) size)

-- the bits that no other thing may have: of a leaf all of its bits, and of a chain its virtual pointer, at the first of the chain
abbrev pub span_in : Thing → Option BitSpan
span_in (Leaf leaf) = Some (record { start = 8 * leaf.place + leaf.first; length = bits_of_leaf leaf.size leaf.width })
span_in (Part part) = if part.is_dynamic && part.is_top then Some (record { start = 8 * part.place; length = 64 }) else None

-- the class and the place of a class subobject
abbrev pub key_in : Thing → Option (ℕ × ℕ)
key_in (Leaf leaf) = None
key_in (Part part) = Some (part.class.0, part.place)
