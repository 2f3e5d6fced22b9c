-- What the tables of a world have: type information, the first address points of classes, and what a placed group gives.
use Rattle.std.proofs.Common.{◌≡◌, ℕ, zero, suc, ◌+◌, ◌-◌, ◌*◌, ◌<◌, ◌≤◌, add-one, inl, ⊎_elim, Some, List, [], ◌∷◌, length, refl, ap, subst, sym, ◌∙◌, arith}
use Rattle.std.specs.Prelude.{if◌then◌else◌, slice_get}
use Rattle.std.proofs.lemmas.Bool.{cases_lt}
use Rattle.std.proofs.lemmas.Option.{slice_get_within}
use Rattle.foundation.proofs.Truth.{split}
use Rattle.foundation.proofs.Members.{Has, has_left, has_right, has_map, index_of}
use Rattle.foundation.proofs.Places.{get_within}
use Rattle.cxx_hierarchy.specs.declared.records.ClassId.{ClassId}
use Rattle.cxx_hierarchy.specs.Classes.{Classes}
use Rattle.cxx_hierarchy.specs.Hierarchies.{IsHierarchy}
use Rattle.cxx_subobject.specs.declared.Subobject.{Subobject}
use Rattle.cxx_subobject.specs.Subobjects.{whole_of, class_of}
use Rattle.abi_primary.specs.Kinds.{IsDynamic}
use Rattle.abi_slots.specs.declared.words.Group.{Group}
use Rattle.abi_slots.specs.declared.words.GroupName.{GroupName}
use Rattle.abi_slots.specs.declared.words.TypeInfo.{TypeInfo}
use Rattle.abi_slots.specs.declared.words.VttWord.{VttWord}
use Rattle.abi_slots.specs.Views.{View, is_dynamic}
use Rattle.abi_slots.specs.Groups.{view_of_group, IsGroup}
use Rattle.abi_slots.specs.Images.{whole_name, IsFirstPoint, first, no_group, HasInfo}
use Rattle.abi_slots.specs.Seen.{PlacedTables, IsSeen}
use Rattle.abi_slots.proofs.Heads.{dynamic_test}
use Rattle.abi_slots.proofs.WordPlaces.{partner}
use Rattle.abi_slots.proofs.Seeing as seeing
use Rattle.abi_slots.proofs.Settings.{setting_of}
use Rattle.abi_vtt.specs.Vtts.{has_vtt, views}
use Rattle.abi_tables.specs.Counts.{group_views}
use Rattle.abi_tables.specs.Tables.{group_name, group_names, names_to, IsNamed}
use Rattle.byte_code.specs.Images.{word_at}
use Rattle.byte_code.proofs.Numbers.{word_inside}
use Rattle.agree_dispatch.specs.CastStanding.{AreTyped, HasFirstPoint}
use Rattle.agree_dispatch.proofs.FirstPoints.{first_point}
use Rattle.agree_relation.specs.Worlds.{World, IsProgramWorld, world_classes, places_in}
use Rattle.agree_relation.specs.Columns.{ArePlacedFor}

-- groups

pub group_is : (w : World) (i : ℕ) (group : Group) → IsProgramWorld w → slice_get w.groups i ≡ Some group → IsGroup (world_classes w) (places_in w) group
group_is w i group world there =
    let along = world.tables.groups in
    let within = slice_get_within w.groups i group there in
    let size = along.size in
    let name = get_within (names_to (world_classes w) (length (world_classes w))) i (omega arith) in
    (along.each i name.0 group name.1 there).group

-- the names of a class are among those of all
names_have : (h : Classes) (c : ClassId) (x : Subobject) (n : ℕ) → c.0 < n → Has (group_views h c) x → Has (names_to h n) (group_name c x)
names_have h c x zero low has = absurd (omega arith)
names_have h c x (suc n) low has = ⊎_elim
    (λ (less : c.0 < n). has_left (names_to h n) (group_names h (record { 0 = n })) (group_name c x) (names_have h c x n less has))
    (λ (last : n ≤ c.0).
    let same : n ≡ c.0 = omega arith in
    has_right (names_to h n) (group_names h (record { 0 = n })) (group_name c x) (subst (λ (k : ℕ). Has (group_names h (record { 0 = k })) (group_name c x)) (sym same) (has_map (group_name c) (group_views h c) x has)))
    (cases_lt c.0 n)

-- the whole of a dynamic class has a group
whole_listed : (h : Classes) (c : ClassId) → IsHierarchy h → IsDynamic h c → Has (group_views h c) (whole_of c)
whole_listed h c keeps dynamic = split (has_vtt h c) (λ b. Has (if b then views h c else (if is_dynamic h c then whole_of c ∷ [] else [])) (whole_of c))
    (λ _. rw add-one (inl refl))
    (λ _. subst (λ b. Has (if b then whole_of c ∷ [] else []) (whole_of c)) (sym (dynamic_test h keeps c dynamic)) (inl refl))

-- the VTT of a class, which may have no words
vtt_there : (w : World) (c : ClassId) → IsProgramWorld w → c.0 < length (world_classes w) → (words : List VttWord) × (slice_get w.vtts c.0 ≡ Some words)
vtt_there w c world known = let size = world.tables.one_vtt_each in get_within w.vtts c.0 (omega arith)

-- a dynamic class has a first address point in the directory, and another class has 0 there
pub world_point : (w : World) (c : ClassId) → IsProgramWorld w → c.0 < length (world_classes w) → IsDynamic (world_classes w) c → HasFirstPoint (word_at w.image) w.addresses.info w.image.base c
world_point w c world known dynamic =
    let h = world_classes w in
    let words = vtt_there w c world known in
    let name = index_of (names_to h (length h)) (group_name c (whole_of c)) (names_have h c (whole_of c) (length h) known (whole_listed h c world.hierarchy dynamic)) in
    let group = partner (IsNamed h (places_in w)) (names_to h (length h)) w.groups world.tables.groups name.0 (group_name c (whole_of c)) name.1 in
    first_point h w.setup.rows w.numbers w.groups w.vtts w.infos w.addresses w.image.base (word_at w.image) c words.0 name.0 group.0 world.hierarchy world.faultless world.sound (λ n other there. group_is w n other world there) world.tables.stand words.1 group.1
    (world.tables.groups.each name.0 (group_name c (whole_of c)) group.0 name.1 group.1).is

pub world_no_point : (w : World) (c : ClassId) → IsProgramWorld w → c.0 < length (world_classes w) → (IsDynamic (world_classes w) c → ⊥) → word_at w.image (w.image.base + 16 * c.0) ≡ Some 0
world_no_point w c world known plain =
    let words = vtt_there w c world known in
    let d = world.tables.stand.directory c words.0 words.1 in
    d.at_point ∙ ap (λ (n : ℕ). Some n) (by_point d.point d.is_point)
  where
    of_class : (group : Group) → IsGroup (world_classes w) (places_in w) group → group.name ≡ whole_name c → ⊥
    of_class group of name =
        let both : Some c ≡ Some of.class = ap (λ (n : GroupName). class_of n.view) (sym name) ∙ of.view.of_class in
        let same : of.class ≡ c = cc in
        plain (subst (λ (x : ClassId). IsDynamic (world_classes w) x) same of.view.dynamic)

    by_point : (point : ℕ) → IsFirstPoint w.groups w.addresses.group c point → point ≡ 0
    by_point point (no_group none zero_is) = zero_is
    by_point point (first p) = absurd (of_class p.group (group_is w p.number p.group world p.there) p.named)

-- type information

pub world_typed : (w : World) → IsProgramWorld w → AreTyped (world_classes w) (places_in w) (word_at w.image) w.addresses.info
world_typed w world = record {
  each = λ c known.
      let size = world.tables.one_info_each in
      let info = get_within w.infos c.0 (omega arith) in
      subst (λ (t : TypeInfo). HasInfo (word_at w.image) w.addresses.info c t (w.addresses.info c)) (world.tables.infos c info.0 info.1) (world.tables.stand.each_info c info.0 info.1);
  low = λ at word there. let inside = word_inside w.image at word there in let small = world.small in omega arith;
}

-- what the tables of the group of a view give
pub placed_seen : (w : World) (x : View) (placed : PlacedTables) → IsProgramWorld w → ArePlacedFor w x placed → class_of x.at_sub ≡ Some x.class → IsSeen (world_classes w) (places_in w) x placed
placed_seen w x placed world stand class =
    let h = world_classes w in
    let l = places_in w in
    let of = group_is w stand.number stand.group world stand.there in
    let both : Some x.class ≡ Some of.class = sym class ∙ (ap (λ (n : GroupName). class_of n.view) (sym stand.named) ∙ of.view.of_class) in
    let same : of.class ≡ x.class = cc in
    let view : view_of_group stand.group of.class ≡ x = λ i. record { complete = (stand.named i).complete; at_sub = (stand.named i).view; class = same i } in
    let seen = seeing.seen h l stand.group of (setting_of h w.setup.rows world.hierarchy world.sound (view_of_group stand.group of.class) of.view) (word_at w.image) w.numbers w.addresses.info (w.addresses.group stand.number) (world.tables.stand.each_group stand.number stand.group stand.there) world.faultless in
    subst (λ (p : PlacedTables). IsSeen h l x p) (sym stand.is) (subst (λ (y : View). IsSeen h l y (record { image = word_at w.image; codes = w.numbers; info = w.addresses.info; tables = stand.group.tables; at = w.addresses.group stand.number })) view seen)
