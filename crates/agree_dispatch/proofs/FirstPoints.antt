-- The first address point of the group of a class, by the directory.
use Rattle.std.proofs.Common.{◌≡◌, ℕ, ◌+◌, ◌*◌, ⊎_elim, true, Some, List, [], refl, ap, subst, sym, ◌∙◌, arith}
use Rattle.std.specs.Prelude.{slice_get}
use Rattle.std.specs.List.{flat_map}
use Rattle.std.proofs.lemmas.Option.{slice_get_within}
use Rattle.foundation.proofs.Members.{Has, has_at, has_cases, from_flat_map}
use Rattle.foundation.proofs.Chosen.{has_filter}
use Rattle.foundation.proofs.Places.{get_within}
use Rattle.cxx_hierarchy.specs.declared.records.ClassId.{ClassId}
use Rattle.cxx_hierarchy.specs.Classes.{Classes}
use Rattle.cxx_hierarchy.specs.Hierarchies.{IsHierarchy}
use Rattle.cxx_subobject.specs.declared.Root.TheVariants.{Whole, Shared}
use Rattle.cxx_subobject.specs.declared.Subobject.{Subobject}
use Rattle.cxx_subobject.specs.Subobjects.{IsSubobject, whole, whole_of, class_of, same_root}
use Rattle.cxx_subobject.specs.Preorder.{preorder}
use Rattle.cxx_subobject.specs.VirtualBases.{virtual_bases}
use Rattle.cxx_subobject.proofs.PathLemmas.{class_there}
use Rattle.cxx_subobject.proofs.TreeLemmas.{has_preorder}
use Rattle.cxx_overrider.specs.Faults.{HasNoFault}
use Rattle.abi_sound.specs.declared.class_layout.ClassLayout.{ClassLayout}
use Rattle.abi_sound.specs.Places.{Places, places_of}
use Rattle.abi_sound.specs.Sound.{IsSoundLayout}
use Rattle.abi_slots.specs.declared.code_numbers.CodeRow.{CodeRow}
use Rattle.abi_slots.specs.declared.words.Group.{Group}
use Rattle.abi_slots.specs.declared.words.GroupName.{GroupName}
use Rattle.abi_slots.specs.declared.words.TypeInfo.{TypeInfo}
use Rattle.abi_slots.specs.declared.words.VttWord.{VttWord}
use Rattle.abi_slots.specs.Views.{View, of_root, by_part, is_head, heads}
use Rattle.abi_slots.specs.Groups.{view_of_group, IsGroup}
use Rattle.abi_slots.specs.Images.{Image, Addresses, StandsAt, point_at, whole_name, IsFirstPoint, first, no_group, HasTables}
use Rattle.abi_slots.specs.Seen.{PlacedTables, IsPointOf, HasTypeInfo, IsSeen}
use Rattle.abi_slots.proofs.Seeing as views
use Rattle.abi_slots.proofs.Settings.{setting_of}
use Rattle.agree_dispatch.specs.CastStanding.{HasFirstPoint}

-- a head is a subobject of the view's class
head_valid : (h : Classes) (l : Places) (x : View) (t : Subobject) → Has (heads h l x) t → IsSubobject h x.class t × (is_head h l x t ≡ true)
head_valid h l x t has =
    let r = has_filter (is_head h l x) (by_part h x.class) t has in (
      has_preorder h x.class t (⊎_elim
          (λ a. (has_filter (λ (s : Subobject). same_root Whole s.root) (preorder h x.class) t a).0)
          (λ b. let v = from_flat_map (λ v. of_root (Shared v) (preorder h x.class)) (virtual_bases h x.class) t b in (has_filter (λ (s : Subobject). same_root (Shared v.0) s.root) (preorder h x.class) t v.2).0)
          (has_cases (of_root Whole (preorder h x.class)) (flat_map (λ v. of_root (Shared v) (preorder h x.class)) (virtual_bases h x.class)) t r.0)),
      r.1,
    )

-- 8 bytes before the first address point of a group stands the address of the record of the view's class
first_typed : (h : Classes) (l : Places) (x : View) (placed : PlacedTables) → IsSubobject h x.class (whole_of x.class) → (point : ℕ) × IsPointOf h l x placed (whole_of x.class) point → IsSeen h l x placed → HasTypeInfo placed x.class (point_at placed.at placed.tables 0)
first_typed h l x placed valid p seen =
    let some = slice_get_within (heads h l x) p.1.number p.1.head p.1.at_head in
    let t = get_within (heads h l x) 0 (omega arith) in
    let k = head_valid h l x t.0 (has_at (heads h l x) 0 t.0 t.1) in
    let c = class_there h x.class t.0 k.0 in
    let of : IsPointOf h l x placed t.0 (point_at placed.at placed.tables 0) = record { number = 0; head = t.0; at_head = t.1; serves = record { valid = k.0; head = k.1; steps = 0; leads = refl }; is = refl } in
    (seen.sees t.0 c.0 (point_at placed.at placed.tables 0) k.0 c.1 of).type_of

group_typed : (h : Classes) (rows : List ClassLayout) (group : Group) (image : Image) (codes : List CodeRow) (info : ClassId → ℕ) (at : ℕ) (c : ClassId) → IsHierarchy h → HasNoFault h → IsSoundLayout h rows → IsGroup h (places_of h rows) group → StandsAt image codes info group at → group.name ≡ whole_name c →
    HasTypeInfo (record { image = image; codes = codes; info = info; tables = group.tables; at = at }) c (point_at at group.tables 0)
group_typed h rows group image codes info at c keeps fine sound of stands name =
    let l = places_of h rows in
    let x = view_of_group group of.class in
    let placed : PlacedTables = record { image = image; codes = codes; info = info; tables = group.tables; at = at } in
    let seen = views.seen h l group of (setting_of h rows keeps sound x of.view) image codes info at stands fine in
    let valid : IsSubobject h of.class (whole_of of.class) = whole [] tt in
    let both : Some c ≡ Some of.class = ap (λ (n : GroupName). class_of n.view) (sym name) ∙ of.view.of_class in
    let same : of.class ≡ c = cc in
    subst (λ d. HasTypeInfo placed d (point_at at group.tables 0)) same (first_typed h l x placed valid (seen.some_point (whole_of of.class) of.class valid refl of.view.dynamic) seen)

pub first_point : (h : Classes) (rows : List ClassLayout) (codes : List CodeRow) (groups : List Group) (vtts : List (List VttWord)) (infos : List TypeInfo) (a : Addresses) (base : ℕ) (image : Image) (c : ClassId) (words : List VttWord) (i : ℕ) (group : Group) → IsHierarchy h → HasNoFault h → IsSoundLayout h rows →
    ((n : ℕ) (other : Group) → slice_get groups n ≡ Some other → IsGroup h (places_of h rows) other) → HasTables codes groups vtts infos a base image → slice_get vtts c.0 ≡ Some words → slice_get groups i ≡ Some group → group.name ≡ whole_name c → HasFirstPoint image a.info base c
first_point h rows codes groups vtts infos a base image c words i group keeps fine sound each tables at_vtt at_group name =
    let d = tables.directory c words at_vtt in
    by_point d.point d.at_point d.is_point
  where
    by_point : (point : ℕ) → image (base + 16 * c.0) ≡ Some point → IsFirstPoint groups a.group c point → HasFirstPoint image a.info base c
    by_point point there (no_group none zero_is) = absurd (none i group at_group name)
    by_point point there (first p) =
        let t = group_typed h rows p.group image codes a.info (a.group p.number) c keeps fine sound (each p.number p.group p.there) (tables.each_group p.number p.group p.there) p.named in
        record { at = t.at; directory = there ∙ ap (λ n. Some n) (p.point ∙ sym t.before); there = t.there }
