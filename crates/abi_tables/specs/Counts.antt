-- How many words the virtual tables and the VTTs of a source have (Itanium C++ ABI 2.5, 2.6).
use Rattle.std.specs.Prelude.{◌≡◌, ℕ, zero, suc, ◌+◌, ◌<◌, min, slice_get, Bool, if◌then◌else◌, Option, Some, None, List, [], ◌∷◌, length}
use Rattle.std.specs.List.{sum_by}
use Rattle.cxx_hierarchy.specs.declared.records.ClassId.{ClassId}
use Rattle.cxx_hierarchy.specs.Classes.{Classes}
use Rattle.cxx_subobject.specs.declared.Subobject.{Subobject}
use Rattle.cxx_subobject.specs.Subobjects.{whole_of, class_of}
use Rattle.abi_sound.specs.Places.{Places}
use Rattle.abi_slots.specs.Listing.{entries, offsets}
use Rattle.abi_slots.specs.Views.{View, seen, is_dynamic, heads}
use Rattle.abi_slots.specs.Groups.{is_shared_base}
use Rattle.abi_vtt.specs.Vtts.{has_vtt, vtt_items, views}

-- the words that the groups and VTTs of a source may have (limit L7)
abbrev pub most_words : ℕ
most_words = 1048576

-- the words of a table of a class: the offsets that it lists, the two before the address point, and its entries
abbrev pub words_of_class : Classes → Places → Bool → Option ClassId → ℕ
words_of_class h l is_shared None = 0
words_of_class h l is_shared (Some c) = length (offsets h l is_shared c) + 2 + length (entries h l c)

-- the words of the table of a subobject of a view
abbrev pub table_words : Classes → Places → View → Subobject → ℕ
table_words h l x t = words_of_class h l (is_shared_base (seen x t)) (class_of t)

-- the words of the group of a view
abbrev pub group_words : Classes → Places → View → ℕ
group_words h l x = sum_by (table_words h l x) (heads h l x)

abbrev pub words_of_view : Classes → Places → ClassId → Subobject → Option ClassId → ℕ
words_of_view h l c x None = 0
words_of_view h l c x (Some d) = group_words h l (record { complete = c; at_sub = x; class = d })

-- the views of a class that have a group: those of its VTT where it has virtual bases, else the whole alone, if it is dynamic
abbrev pub group_views : Classes → ClassId → List Subobject
group_views h c = if has_vtt h c then views h c else (if is_dynamic h c then whole_of c ∷ [] else [])

-- the words of the VTT of a class, which it has where it has virtual bases
abbrev pub vtt_words : Classes → Places → ClassId → ℕ
vtt_words h l c = if has_vtt h c then length (vtt_items h l c) else 0

-- the lengths of the VTTs, by class number, one past the limit on all words where a VTT is longer than that
abbrev pub AreVttLengths : Classes → Places → List ℕ → Type 0
AreVttLengths h l lengths = (c : ClassId) → c.0 < length h → slice_get lengths c.0 ≡ Some (min (vtt_words h l c) (most_words + 1))

-- the words of all groups of a class, and of its VTT
abbrev pub class_words : Classes → Places → ClassId → ℕ
class_words h l c = sum_by (λ (x : Subobject). words_of_view h l c x (class_of x)) (group_views h c) + vtt_words h l c

-- those of the first n classes
abbrev pub words_before_class : Classes → Places → ℕ → ℕ
words_before_class h l zero = 0
words_before_class h l (suc n) = words_before_class h l n + class_words h l (record { 0 = n })

-- the words of all groups and VTTs
abbrev pub words_of_all_classes : Classes → Places → ℕ
words_of_all_classes h l = words_before_class h l (length h)

-- the words of the VTTs of the first n classes
abbrev pub vtts_before_class : Classes → Places → ℕ → ℕ
vtts_before_class h l zero = 0
vtts_before_class h l (suc n) = vtts_before_class h l n + vtt_words h l (record { 0 = n })

-- the words of all VTTs, without those of groups
abbrev pub words_of_all_vtts : Classes → Places → ℕ
words_of_all_vtts h l = vtts_before_class h l (length h)
