-- The rules of a sound layout, in their order: the laws of IsSoundClass in six groups (Itanium C++ ABI 2.2, 2.4; ISO C++03 1.8, 9.2, 10).
use Rattle.std.specs.Prelude.{◌≡◌, ℕ, ◌+◌, ◌*◌, ◌<◌, ◌≤◌, ◌⊎◌, false, Option, Some, None, List, [], ◌∷◌, ◌++◌, length, slice_get}
use Rattle.std.specs.List.{find}
use Rattle.abi_sound.specs.Sound.{most_class_bytes}
use Rattle.cxx_hierarchy.specs.declared.records.ClassId.{ClassId}
use Rattle.cxx_hierarchy.specs.declared.records.ValueType.{ValueType}
use Rattle.cxx_hierarchy.specs.declared.records.FieldType.TheVariants.{Value, Object}
use Rattle.cxx_hierarchy.specs.Classes.{Classes, width_of_member}
use Rattle.cxx_hierarchy.specs.VirtualBases.{IsDirectBase, HasVirtualBase}
use Rattle.cxx_subobject.specs.declared.Subobject.{Subobject}
use Rattle.cxx_subobject.specs.declared.locations.Hop.{Hop}
use Rattle.cxx_subobject.specs.declared.locations.Hop.TheVariants.{Inherit}
use Rattle.cxx_subobject.specs.Subobjects.{IsSubobject, class_of, whole_of}
use Rattle.cxx_subobject.specs.Preorder.{preorder}
use Rattle.cxx_subobject.specs.Locations.{LeadsTo}
use Rattle.abi_primary.specs.declared.Primary.TheVariants.{Direct, Virtual}
use Rattle.abi_primary.specs.Kinds.{IsDynamic}
use Rattle.abi_sound.specs.declared.class_layout.ClassLayout.{ClassLayout}
use Rattle.abi_sound.specs.Places.{Places, places_of}
use Rattle.abi_sound.specs.Locations.{place_along_hops, last_member, leaf_span, pointer_span, AreDisjoint}
use Rattle.abi_sound.specs.Chains.{primary_part, ShareChain}
use Rattle.abi_sound.specs.Sound.{Divides, AreFullRows, IsAligned, is_primary_of, IsSoundClass}
use Rattle.abi_judge.specs.declared.rules.SoundRule.{SoundRule}
use Rattle.abi_judge.specs.declared.rules.SoundRule.TheVariants.{Primary, Place, Align, Inside, Overlap, Twice}

-- the holder of each virtual base of the class is the first subobject in preorder whose primary base it is, or there is none
pub record HasFirstHolders (h : Classes) (l : Places) (c : ClassId) : Type 0 where
  pub holder : (v : ClassId) → HasVirtualBase h c v → l.holder c v ≡ find (λ (s : Subobject). is_primary_of l v (class_of s)) (preorder h c)

-- a primary base is a direct non-virtual base or a virtual base, and dynamic
pub record KeepsPrimary (h : Classes) (l : Places) (c : ClassId) : Type 0 where
  pub direct : (b : ClassId) → l.primary c ≡ Direct b → IsDirectBase h c false b × IsDynamic h b
  pub virtual : (v : ClassId) → l.primary c ≡ Virtual v → HasVirtualBase h c v × IsDynamic h v
  pub held : HasFirstHolders h l c

-- the size is at least 1, and a subobject and its primary base have one place
pub record KeepsPlace (h : Classes) (l : Places) (c : ClassId) : Type 0 where
  pub positive : 1 ≤ l.size c
  pub one_place : (s t : Subobject) → IsSubobject h c s → primary_part l c s ≡ Some t → l.place c t ≡ l.place c s

-- what lies in an object of the class, at any depth, lies at a multiple of its alignment
pub record KeepsAlign (h : Classes) (l : Places) (c : ClassId) : Type 0 where
  pub aligned : (type : ValueType ClassId) (hops : List Hop) (d : ClassId) (m : ℕ) → LeadsTo h c hops (Value type) → last_member h (Some c) hops ≡ Some (d, m) → IsAligned (width_of_member h d m) type (place_along_hops h l c hops) (l.first d m)
  pub base_multiple : (d : ClassId) (front : List Hop) (s : Subobject) → LeadsTo h c (front ++ Inherit s ∷ []) (Object d) → (s ≡ whole_of d → ⊥) → Divides (l.base_align d) (place_along_hops h l c (front ++ Inherit s ∷ []))
  pub object_multiple : (d : ClassId) (front : List Hop) → LeadsTo h c (front ++ Inherit (whole_of d) ∷ []) (Object d) → Divides (l.align d) (place_along_hops h l c (front ++ Inherit (whole_of d) ∷ []))

-- the size is at most 1,048,576; numbers, pointers and virtual pointers lie inside it, and class subobjects begin inside it
pub record KeepsInside (h : Classes) (l : Places) (c : ClassId) : Type 0 where
  pub bounded : l.size c ≤ most_class_bytes
  pub leaf_inside : (type : ValueType ClassId) (hops : List Hop) → LeadsTo h c hops (Value type) → (leaf_span h l c hops).start + (leaf_span h l c hops).length ≤ 8 * l.size c
  pub pointer_inside : (d : ClassId) (hops : List Hop) → IsDynamic h d → LeadsTo h c hops (Object d) → place_along_hops h l c hops + 8 ≤ l.size c
  pub begins_inside : (d : ClassId) (hops : List Hop) → LeadsTo h c hops (Object d) → place_along_hops h l c hops < l.size c

-- no bit belongs to two numbers or pointers, to such a one and a virtual pointer, or to virtual pointers of two chains
pub record KeepsOverlap (h : Classes) (l : Places) (c : ClassId) : Type 0 where
  pub leaves_apart : (type other : ValueType ClassId) (hops others : List Hop) → LeadsTo h c hops (Value type) → LeadsTo h c others (Value other) → (hops ≡ others → ⊥) → AreDisjoint (leaf_span h l c hops) (leaf_span h l c others)
  pub leaf_and_pointer : (d : ClassId) (type : ValueType ClassId) (hops others : List Hop) → IsDynamic h d → LeadsTo h c hops (Object d) → LeadsTo h c others (Value type) → AreDisjoint (pointer_span (place_along_hops h l c hops)) (leaf_span h l c others)
  pub pointers_apart : (d e : ClassId) (hops others : List Hop) → IsDynamic h d → IsDynamic h e → LeadsTo h c hops (Object d) → LeadsTo h c others (Object e) →
      ShareChain h l c hops others ⊎ AreDisjoint (pointer_span (place_along_hops h l c hops)) (pointer_span (place_along_hops h l c others))

-- two subobjects of one class lie at different places
pub record KeepsTwice (h : Classes) (l : Places) (c : ClassId) : Type 0 where
  pub distinct : (d : ClassId) (hops others : List Hop) → LeadsTo h c hops (Object d) → LeadsTo h c others (Object d) → place_along_hops h l c hops ≡ place_along_hops h l c others → hops ≡ others

-- the class keeps the rule
abbrev pub Keeps : Classes → Places → ClassId → SoundRule → Type 0
Keeps h l c Primary = KeepsPrimary h l c
Keeps h l c Place = KeepsPlace h l c
Keeps h l c Align = KeepsAlign h l c
Keeps h l c Inside = KeepsInside h l c
Keeps h l c Overlap = KeepsOverlap h l c
Keeps h l c Twice = KeepsTwice h l c

-- how many rules are asked before this one
abbrev pub turn : SoundRule → ℕ
turn Primary = 0
turn Place = 1
turn Align = 2
turn Inside = 3
turn Overlap = 4
turn Twice = 5

-- the class keeps the rules before this one, and not this one
pub record FailsFirst (h : Classes) (l : Places) (c : ClassId) (rule : SoundRule) : Type 0 where
  pub before : (earlier : SoundRule) → turn earlier < turn rule → Keeps h l c earlier
  pub broken : Keeps h l c rule → ⊥

-- the first rule that the class does not keep, and none exactly where it is sound
abbrev pub IsFault : Classes → Places → ClassId → Option SoundRule → Type 0
IsFault h l c None = IsSoundClass h l c
IsFault h l c (Some rule) = FailsFirst h l c rule

-- no number of the row is greater than the greatest size
pub record IsSmallRow (row : ClassLayout) : Type 0 where
  pub size : row.size ≤ most_class_bytes
  pub align : row.align ≤ most_class_bytes
  pub nvalign : row.nvalign ≤ most_class_bytes
  pub bases : (i place : ℕ) → slice_get row.base_places i ≡ Some place → place ≤ most_class_bytes
  pub virtuals : (i place : ℕ) → slice_get row.virtual_places i ≡ Some place → place ≤ most_class_bytes
  pub members : (i place : ℕ) → slice_get row.member_places i ≡ Some place → place ≤ most_class_bytes

-- what is known of the rows when a class is judged: they tell of each class, in small numbers, its virtual bases are held by the
-- rule, and the classes before it are sound
pub record MayBeJudged (h : Classes) (rows : List ClassLayout) (c : ClassId) : Type 0 where
  pub known : c.0 < length h
  pub full : AreFullRows h rows
  pub small : (i : ℕ) (row : ClassLayout) → slice_get rows i ≡ Some row → IsSmallRow row
  pub held : HasFirstHolders h (places_of h rows) c
  pub before : (d : ClassId) → d.0 < c.0 → IsSoundClass h (places_of h rows) d
