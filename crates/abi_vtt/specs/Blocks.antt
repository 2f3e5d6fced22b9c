-- Where the sub-VTTs of a VTT stand, and the tables of the non-virtual part of a view: at numbers that depend on classes alone
-- (Itanium C++ ABI 2.6.2, 2.5.2).
use Rattle.std.specs.Prelude.{◌≡◌, ℕ, zero, suc, ◌+◌, ◌-◌, nat_eq, Bool, false, not, ◌&&◌, if◌then◌else◌, Option, Some, None, List, [], ◌∷◌, map, filter, length, slice_get}
use Rattle.cxx_hierarchy.specs.declared.records.ClassId.{ClassId}
use Rattle.cxx_hierarchy.specs.Classes.{Classes}
use Rattle.cxx_subobject.specs.declared.Root.TheVariants.{Whole}
use Rattle.cxx_subobject.specs.declared.Subobject.{Subobject}
use Rattle.cxx_subobject.specs.Subobjects.{whole_of, class_of, same_subobject}
use Rattle.cxx_subobject.specs.Preorder.{preorder}
use Rattle.cxx_subobject.specs.VirtualBases.{virtual_bases}
use Rattle.abi_sound.specs.Places.{Places}
use Rattle.abi_slots.specs.Listing.{first_position, entries, offsets}
use Rattle.abi_slots.specs.Rows.{class_of_base}
use Rattle.abi_slots.specs.Views.{is_dynamic_class, of_root}
use Rattle.abi_vtt.specs.Vtts.{VttEntry, item, has_vtt, bases_with_tables, ends_in_primary, needs_word, sub_items}

-- the items of the sub-VTT of the view x, of class d
abbrev pub block : Classes → Places → Subobject → ClassId → List VttEntry
block h l x d = sub_items h l (d.0 + 1) x d

-- some items stand together among others: from this number on, one after the other
pub record StandsIn (all : List VttEntry) (number : ℕ) (part : List VttEntry) : Type 0 where
  pub each : (i : ℕ) (it : VttEntry) → slice_get part i ≡ Some it → slice_get all (number + i) ≡ Some it

-- how many words the sub-VTT of a view of class d has
abbrev pub block_length : Classes → Places → ClassId → ℕ
block_length h l d = length (block h l (whole_of d) d)

-- how many words the sub-VTTs of the classes of a list have, and of those before class b in it
abbrev pub lengths_of : Classes → Places → List ClassId → ℕ
lengths_of h l [] = 0
lengths_of h l (d ∷ rest) = block_length h l d + lengths_of h l rest

abbrev pub lengths_before : Classes → Places → ClassId → List ClassId → ℕ
lengths_before h l b [] = 0
lengths_before h l b (d ∷ rest) = if nat_eq d.0 b.0 then 0 else block_length h l d + lengths_before h l b rest

-- the direct non-virtual bases of a class with virtual bases, and its virtual bases with virtual bases
abbrev pub built_classes : Classes → ClassId → List ClassId
built_classes h d = map class_of_base (bases_with_tables h d)

abbrev pub built_shared : Classes → ClassId → List ClassId
built_shared h c = filter (has_vtt h) (virtual_bases h c)

-- how many words behind the sub-VTT of a view of class d that of its base b begins
abbrev pub block_distance : Classes → Places → ClassId → ClassId → ℕ
block_distance h l d b = 1 + lengths_before h l b (built_classes h d)

-- at which word of the VTT of class c the sub-VTT of its virtual base v begins
abbrev pub shared_distance : Classes → Places → ClassId → ClassId → ℕ
shared_distance h l c v = block_length h l c + lengths_before h l v (built_shared h c)

-- the number of the word for the base subobject s in the sub-VTT of a view of class d
abbrev pub item_number : Classes → Places → ClassId → Subobject → ℕ
item_number h l d s = 1 + lengths_of h l (built_classes h d) + first_position (same_subobject s) (filter (needs_word h l) (preorder h d))

-- a subobject of the non-virtual part that has a table of its own in each view: it is dynamic, and not the non-virtual
-- primary base of the subobject that directly derives it
abbrev pub is_front_head : Classes → Places → Subobject → Bool
is_front_head h l s = is_dynamic_class h (class_of s) && not (ends_in_primary l s.path)

-- the subobjects of class d whose tables come first in the group of each view of this class, in their order
abbrev pub table_run : Classes → Places → ClassId → List Subobject
table_run h l d = filter (is_front_head h l) (of_root Whole (preorder h d))

-- how many words the table of a subobject has that is no virtual base, and how many of them before the address point
abbrev pub words_by_class : Classes → Places → Option ClassId → ℕ
words_by_class h l None = 0
words_by_class h l (Some c) = length (offsets h l false c) + 2 + length (entries h l c)

abbrev pub before_by_class : Classes → Places → Option ClassId → ℕ
before_by_class h l None = 0
before_by_class h l (Some c) = length (offsets h l false c) + 2

-- how many words stand before the address point of the n-th table, where tables for these subobjects follow one another
abbrev pub words_to : Classes → Places → List Subobject → ℕ → ℕ
words_to h l [] n = 0
words_to h l (s ∷ rest) zero = before_by_class h l (class_of s)
words_to h l (s ∷ rest) (suc n) = words_by_class h l (class_of s) + words_to h l rest n

-- how many words behind the first address point of the group of a view of class d that of the n-th table of the run stands
abbrev pub run_distance : Classes → Places → ClassId → ℕ → ℕ
run_distance h l d n = words_to h l (table_run h l d) n - words_to h l (table_run h l d) 0

-- the first tables of a group are those of these subobjects, in their order, which are all that have a table and lie in the
-- view's non-virtual part
pub record IsFirstRun (all first : List Subobject) : Type 0 where
  pub there : (n : ℕ) (t : Subobject) → slice_get first n ≡ Some t → slice_get all n ≡ Some t
  pub whole : (n : ℕ) (t : Subobject) → slice_get first n ≡ Some t → t.root ≡ Whole
  pub each : (n : ℕ) (t : Subobject) → slice_get all n ≡ Some t → t.root ≡ Whole → slice_get first n ≡ Some t

-- the table that serves a subobject s of a view x of class d is found by the class alone: it is one of the run, or the block of
-- the view has a word for s
pub data IsFoundByClass (h : Classes) (l : Places) (x : Subobject) (d : ClassId) (s : Subobject) : Type 0 where
  in_run : (n : ℕ) → slice_get (table_run h l d) n ≡ Some s → IsFoundByClass h l x d s
  by_word : slice_get (block h l x d) (item_number h l d s) ≡ Some (item x s) → IsFoundByClass h l x d s
