-- Each word of a VTT names a table of a group.
use Rattle.std.proofs.Common.{◌≡◌, ℕ, zero, suc, ◌+◌, ◌<◌, inl, inr, ⊎_elim, Some, List, [], ◌∷◌, length, sym, ap, subst, ◌∙◌, arith}
use Rattle.std.specs.Prelude.{slice_get, if◌then◌else◌, filter}
use Rattle.std.specs.List.{flat_map}
use Rattle.std.proofs.lemmas.Option.{slice_get_within}
use Rattle.foundation.proofs.Truth.{split}
use Rattle.foundation.proofs.Places.{get_within}
use Rattle.foundation.proofs.Members.{Has, has_at, has_cases, has_left, has_right, has_map, from_map, has_flat_map, from_flat_map, index_of}
use Rattle.cxx_hierarchy.specs.declared.records.ClassId.{ClassId}
use Rattle.cxx_hierarchy.specs.declared.records.Base.{Base}
use Rattle.cxx_hierarchy.specs.Classes.{Classes}
use Rattle.cxx_subobject.specs.declared.Subobject.{Subobject}
use Rattle.cxx_subobject.specs.Subobjects.{class_of, whole_of, shared_base}
use Rattle.cxx_subobject.specs.VirtualBases.{virtual_bases}
use Rattle.cxx_subobject.specs.Preorder.{preorder}
use Rattle.abi_sound.specs.Places.{Places}
use Rattle.abi_slots.specs.declared.words.Group.{Group}
use Rattle.abi_slots.specs.declared.words.GroupName.{GroupName}
use Rattle.abi_slots.specs.declared.words.VttWord.{VttWord}
use Rattle.abi_slots.specs.Groups.{GoAlong, IsGroup, view_of_group}
use Rattle.abi_slots.specs.Views.{View, heads, is_dynamic}
use Rattle.abi_slots.proofs.WordPlaces.{partner}
use Rattle.abi_vtt.specs.Vtts.{VttEntry, item, vtt_items, has_vtt, bases_with_tables, extended_by, needs_word, sub_items, shared_items, sub_views, shared_views, views, words_of_bases, IsVttWord}
use Rattle.abi_tables.specs.Counts.{group_views}
use Rattle.abi_tables.specs.Tables.{AreGroups, IsNamed, group_name, names_to, class_items}
use Rattle.agree_events.proofs.Names.{has_names}
use Rattle.abi_slots.specs.declared.words.TypeInfo.{TypeInfo}
use Rattle.abi_image.specs.Conditions.{HasTable, NameTables, AllNameTables}
use Rattle.abi_world.specs.Made.{AreAllTables}

-- the views of the items of a sub-VTT are its views
sub_viewed : (h : Classes) (l : Places) (n : ℕ) (x : Subobject) (c : ClassId) (i : VttEntry) → Has (sub_items h l n x c) i → Has (sub_views h n x c) i.view
sub_viewed h l zero x c i has = absurd has
sub_viewed h l (suc n) x c i has = ⊎_elim
    (λ same. inl (ap (λ (j : VttEntry). j.view) same))
    (λ rest. ⊎_elim
    (λ bases.
    let r = from_flat_map (λ (base : Base ClassId). sub_items h l n (extended_by x base.class) base.class) (bases_with_tables h c) i bases in
    inr (has_flat_map (λ (base : Base ClassId). sub_views h n (extended_by x base.class) base.class) (bases_with_tables h c) r.0 i.view r.1 (sub_viewed h l n (extended_by x r.0.class) r.0.class i r.2)))
    (λ words. let r = from_map (item x) (filter (needs_word h l) (preorder h c)) i words in inl (ap (λ (j : VttEntry). j.view) r.2))
    (has_cases (flat_map (λ (base : Base ClassId). sub_items h l n (extended_by x base.class) base.class) (bases_with_tables h c)) (words_of_bases h l x c) i rest))
    has

all_viewed : (h : Classes) (l : Places) (c : ClassId) (i : VttEntry) → Has (vtt_items h l c) i → Has (views h c) i.view
all_viewed h l c i has = ⊎_elim
    (λ first. has_left (sub_views h (c.0 + 1) (whole_of c) c) _ i.view (sub_viewed h l (c.0 + 1) (whole_of c) c i first))
    (λ rest.
    let r = from_flat_map (shared_items h l) (filter (has_vtt h) (virtual_bases h c)) i rest in
    has_right (sub_views h (c.0 + 1) (whole_of c) c) _ i.view
    (has_flat_map (shared_views h) (filter (has_vtt h) (virtual_bases h c)) r.0 i.view r.1 (sub_viewed h l (r.0.0 + 1) (shared_base r.0) r.0 i r.2)))
    (has_cases (sub_items h l (c.0 + 1) (whole_of c) c) (flat_map (shared_items h l) (filter (has_vtt h) (virtual_bases h c))) i has)

pub item_viewed : (h : Classes) (l : Places) (c : ClassId) (i : VttEntry) → Has (class_items h l c) i → Has (group_views h c) i.view
item_viewed h l c i has = split (has_vtt h c) (λ b. Has (if b then vtt_items h l c else []) i → Has (if b then views h c else (if is_dynamic h c then whole_of c ∷ [] else [])) i.view)
    (λ t there. all_viewed h l c i there)
    (λ t none. absurd none)
    has

-- a word that is for an item of the VTT of a class names a table
pub word_names : (h : Classes) (l : Places) (groups : List Group) → AreGroups h l groups → (c : ClassId) → c.0 < length h → (i : VttEntry) (word : VttWord) → Has (class_items h l c) i → IsVttWord h l c i word → HasTable groups word.group word.table
word_names h l groups are c known i word has is =
    let name = group_name c i.view in
    let listed = has_names h (length h) c name known (has_map (group_name c) (group_views h c) i.view (item_viewed h l c i has)) in
    let at = index_of (names_to h (length h)) name listed in
    let found = partner (IsNamed h l) (names_to h (length h)) groups are at.0 name at.1 in
    let group = found.0 in
    let named : IsNamed h l name group = found.2 in
    let same_name : name ≡ word.group = λ k. record { complete = sym is.complete k; view = sym is.view k } in
    let of : IsGroup h l group = named.group in
    let both : Some is.class ≡ Some of.class = sym is.of_class ∙ (ap (λ (n : GroupName). class_of n.view) (sym named.is) ∙ of.view.of_class) in
    let class : is.class ≡ of.class = cc in
    let view : view_of_group group of.class ≡ record { complete = c; at_sub = i.view; class = is.class } = λ k. record { complete = (named.is k).complete; at_sub = (named.is k).view; class = sym class k } in
    let there : slice_get (heads h l (view_of_group group of.class)) word.table ≡ Some is.head = subst (λ (x : View). slice_get (heads h l x) word.table ≡ Some is.head) (sym view) is.there in
    let inside = slice_get_within (heads h l (view_of_group group of.class)) word.table is.head there in
    let size = of.tables.size in
    record { number = at.0; group = group; there = found.1; named = named.is ∙ same_name; inside = omega (arith, size, inside) }

-- so do all words of the VTT of a class
pub vtt_names : (h : Classes) (l : Places) (groups : List Group) → AreGroups h l groups → (c : ClassId) → c.0 < length h → (words : List VttWord) → GoAlong (IsVttWord h l c) (class_items h l c) words → NameTables groups words
vtt_names h l groups are c known words along n word there =
    let size = along.size in
    let inside = slice_get_within words n word there in
    let i = get_within (class_items h l c) n (omega (arith, size, inside)) in
    word_names h l groups are c known i.0 word (has_at (class_items h l c) n i.0 i.1) (along.each n i.0 word i.1 there)

-- and those of all classes
pub all_vtts_name : (h : Classes) (l : Places) (groups : List Group) (vtts : List (List VttWord)) (infos : List TypeInfo) → AreAllTables h l groups vtts infos → AllNameTables groups vtts
all_vtts_name h l groups vtts infos are n words there =
    let size = are.one_vtt_each in
    let inside = slice_get_within vtts n words there in
    vtt_names h l groups are.groups_are (record { 0 = n }) (omega (arith, size, inside)) words (are.vtts_are (record { 0 = n }) words there)
