-- The VTT of a class with virtual bases, word by word, and the views whose groups it points to (Itanium C++ ABI 2.6.2).
use Rattle.std.specs.Prelude.{◌≡◌, ℕ, zero, suc, ◌+◌, Bool, true, false, not, ◌&&◌, ◌||◌, Option, Some, None, List, [], ◌∷◌, ◌++◌, map, filter, slice_get}
use Rattle.std.specs.List.{flat_map}
use Rattle.cxx_hierarchy.specs.declared.records.ClassId.{ClassId}
use Rattle.cxx_hierarchy.specs.declared.records.Base.{Base}
use Rattle.cxx_hierarchy.specs.Classes.{Classes, bases_of}
use Rattle.cxx_subobject.specs.declared.Root.{Root}
use Rattle.cxx_subobject.specs.declared.Root.TheVariants.{Whole, Shared}
use Rattle.cxx_subobject.specs.declared.Subobject.{Subobject}
use Rattle.cxx_subobject.specs.Subobjects.{subobject, shared_base, whole_of, class_of, is_shared_root}
use Rattle.cxx_subobject.specs.Preorder.{preorder}
use Rattle.cxx_subobject.specs.VirtualBases.{virtual_bases}
use Rattle.abi_primary.specs.Kinds.{IsDynamic}
use Rattle.abi_sound.specs.Places.{Places}
use Rattle.abi_primary.specs.PrimaryBase.{is_direct_primary}
use Rattle.abi_slots.specs.Views.{is_dynamic_class, heads, Serves}
use Rattle.abi_slots.specs.Groups.{GoAlong}
use Rattle.abi_slots.specs.declared.words.VttWord.{VttWord}

-- a word of a VTT by what it is for: a view of the complete object, and a subobject of that view, whose table it points to
pub record VttEntry : Type 0 where
  pub view : Subobject
  pub served : Subobject

abbrev pub item : Subobject → Subobject → VttEntry
item view served = record { view = view; served = served }

abbrev pub is_filled : List ClassId → Bool
is_filled [] = false
is_filled (v ∷ rest) = true

abbrev pub has_vtt : Classes → ClassId → Bool
has_vtt h c = is_filled (virtual_bases h c)

abbrev pub class_has_virtual : Classes → Option ClassId → Bool
class_has_virtual h None = false
class_has_virtual h (Some c) = has_vtt h c

-- the direct non-virtual bases of a class that have virtual bases
abbrev pub is_built_base : Classes → Base ClassId → Bool
is_built_base h base = not base.is_virtual && has_vtt h base.class

abbrev pub bases_with_tables : Classes → ClassId → List (Base ClassId)
bases_with_tables h c = filter (is_built_base h) (bases_of h c)

-- it is a base, and not the whole
abbrev pub is_proper_at : Root → List ClassId → Bool
is_proper_at (Shared v) path = true
is_proper_at Whole [] = false
is_proper_at Whole (c ∷ []) = false
is_proper_at Whole (c ∷ d ∷ path) = true

-- the last class of a path is the non-virtual primary base of the one before it
abbrev pub ends_in_primary : Places → List ClassId → Bool
ends_in_primary l [] = false
ends_in_primary l (c ∷ []) = false
ends_in_primary l (c ∷ d ∷ []) = is_direct_primary (l.primary c) d
ends_in_primary l (c ∷ d ∷ e ∷ path) = ends_in_primary l (d ∷ e ∷ path)

-- a dynamic base that has virtual bases or lies below one (it is morally virtual), and is not the non-virtual primary base of
-- the subobject that directly derives it
abbrev pub needs_word : Classes → Places → Subobject → Bool
needs_word h l s =
    is_proper_at s.root s.path && (is_dynamic_class h (class_of s) && ((class_has_virtual h (class_of s) || is_shared_root s.root) && not (ends_in_primary l s.path)))

abbrev pub words_of_bases : Classes → Places → Subobject → ClassId → List VttEntry
words_of_bases h l x c = map (item x) (filter (needs_word h l) (preorder h c))

-- one more class behind the path of a subobject
abbrev pub extended_by : Subobject → ClassId → Subobject
extended_by x b = subobject x.root (x.path ++ b ∷ [])

-- the sub-VTT of the view x, of class c: its own table, the sub-VTTs of its bases, and the tables of its base subobjects. Bases
-- have smaller numbers than their class, so that as many steps are enough
abbrev pub sub_items : Classes → Places → ℕ → Subobject → ClassId → List VttEntry
sub_items h l zero x c = []
sub_items h l (suc steps) x c =
    item x (whole_of c) ∷ (flat_map (λ (base : Base ClassId). sub_items h l steps (extended_by x base.class) base.class) (bases_with_tables h c) ++ words_of_bases h l x c)

abbrev pub shared_items : Classes → Places → ClassId → List VttEntry
shared_items h l v = sub_items h l (v.0 + 1) (shared_base v) v

-- the words of the VTT of class c: the sub-VTT of the whole, and those of the virtual bases that have virtual bases
abbrev pub vtt_items : Classes → Places → ClassId → List VttEntry
vtt_items h l c = sub_items h l (c.0 + 1) (whole_of c) c ++ flat_map (shared_items h l) (filter (has_vtt h) (virtual_bases h c))

-- the views of the sub-VTTs, in their order
abbrev pub sub_views : Classes → ℕ → Subobject → ClassId → List Subobject
sub_views h zero x c = []
sub_views h (suc steps) x c = x ∷ flat_map (λ (base : Base ClassId). sub_views h steps (extended_by x base.class) base.class) (bases_with_tables h c)

abbrev pub shared_views : Classes → ClassId → List Subobject
shared_views h v = sub_views h (v.0 + 1) (shared_base v) v

-- the views of class c that have a group in its VTT, the whole first
abbrev pub views : Classes → ClassId → List Subobject
views h c = sub_views h (c.0 + 1) (whole_of c) c ++ flat_map (shared_views h) (filter (has_vtt h) (virtual_bases h c))

-- the word points to the table, in the group of the item's view, that serves the item's subobject
pub record IsVttWord (h : Classes) (l : Places) (c : ClassId) (i : VttEntry) (word : VttWord) : Type 0 where
  pub complete : word.group.complete ≡ c
  pub view : word.group.view ≡ i.view
  pub class : ClassId
  pub of_class : class_of i.view ≡ Some class
  pub head : Subobject
  pub there : slice_get (heads h l (record { complete = c; at_sub = i.view; class = class })) word.table ≡ Some head
  pub serves : Serves h l (record { complete = c; at_sub = i.view; class = class }) head i.served

-- the words of the VTT of class c
abbrev pub IsVtt : Classes → Places → ClassId → List VttWord → Type 0
IsVtt h l c words = GoAlong (IsVttWord h l c) (vtt_items h l c) words

-- the class of the subobject is dynamic
abbrev pub HasDynamicClass : Classes → Subobject → Type 0
HasDynamicClass h s = (d : ClassId) → class_of s ≡ Some d → IsDynamic h d
