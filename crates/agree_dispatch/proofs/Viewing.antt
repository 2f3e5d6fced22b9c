-- Two ways in which a view stands, and what an image gives for it.
use Rattle.std.proofs.Common.{◌≡◌, ℕ, ◌+◌, Some, List, [], refl, ap, subst, sym, ◌∙◌, arith}
use Rattle.cxx_hierarchy.specs.declared.records.ClassId.{ClassId}
use Rattle.cxx_hierarchy.specs.Classes.{Classes}
use Rattle.cxx_hierarchy.specs.Hierarchies.{IsHierarchy}
use Rattle.cxx_subobject.specs.declared.Root.TheVariants.{Whole}
use Rattle.cxx_subobject.specs.declared.Subobject.{Subobject}
use Rattle.cxx_subobject.specs.Subobjects.{IsSubobject, whole, shared, class_of, join, whole_of}
use Rattle.cxx_subobject.specs.VirtualBases.{virtual_bases}
use Rattle.cxx_overrider.specs.Faults.{HasNoFault}
use Rattle.abi_sound.specs.declared.class_layout.ClassLayout.{ClassLayout}
use Rattle.abi_sound.specs.Places.{places_of}
use Rattle.abi_sound.specs.Sound.{IsSoundLayout}
use Rattle.abi_sound.proofs.PlaceLemmas.{joined}
use Rattle.abi_slots.specs.declared.words.Group.{Group}
use Rattle.abi_slots.specs.declared.words.Table.{Table}
use Rattle.abi_slots.specs.Groups.{IsGroup, view_of_group}
use Rattle.abi_slots.specs.Images.{StandsAt}
use Rattle.abi_slots.specs.Views.{View}
use Rattle.abi_slots.specs.Seen.{IsSeen, PlacedTables}
use Rattle.abi_slots.proofs.Bases.{virtual_item}
use Rattle.abi_slots.proofs.Lists.{Item, item_none}
use Rattle.abi_slots.proofs.Seeing as views
use Rattle.abi_slots.proofs.Settings.{setting_of}
use Rattle.agree_dispatch.specs.Standing.{LieAlike}

-- a class without virtual bases has no subobject in one
whole_root : (h : Classes) → IsHierarchy h → (c : ClassId) (s : Subobject) → virtual_bases h c ≡ [] → IsSubobject h c s → (s.root ≡ Whole) × (join (whole_of c) s ≡ s)
whole_root h keeps c _ none (whole path leads) = (refl, refl)
whole_root h keeps c _ none (shared v path has leads) = absurd (item_none v (subst (λ xs. Item xs v) none (virtual_item h keeps c v has)))

pub lie_alone : (h : Classes) (rows : List ClassLayout) (d c : ClassId) (at : ℕ) (y : Subobject) → IsHierarchy h → IsSubobject h d y → class_of y ≡ Some c → virtual_bases h c ≡ [] → LieAlike h (places_of h rows) d at y (record { complete = c; at_sub = whole_of c; class = c })
lie_alone h rows d c at y keeps valid class none = record {
  start = at + (places_of h rows).place d y;
  each = λ s there.
      let w = whole_root h keeps c s none there in
      let sum : (places_of h rows).place d (join y s) ≡ (places_of h rows).place d y + (places_of h rows).place c s = joined h rows d c y s valid class there w.0 in
      let same : (places_of h rows).place c (join (whole_of c) s) ≡ (places_of h rows).place c s = ap ((places_of h rows).place c) w.1 in
      omega (arith, sum, same);
}

pub seen_placed : (h : Classes) (rows : List ClassLayout) (group : Group) (x : View) (placed : PlacedTables) → IsHierarchy h → HasNoFault h → IsSoundLayout h rows → IsGroup h (places_of h rows) group → group.name.complete ≡ x.complete → group.name.view ≡ x.at_sub → class_of x.at_sub ≡ Some x.class → placed.tables ≡ group.tables →
    StandsAt placed.image placed.codes placed.info group placed.at → IsSeen h (places_of h rows) x placed
seen_placed h rows group x placed keeps fine sound of complete view class tables stands =
    let both : Some of.class ≡ Some x.class = sym of.view.of_class ∙ (ap class_of view ∙ class) in
    let same : of.class ≡ x.class = cc in
    let make : ClassId → Subobject → ClassId → View = λ c s e. record { complete = c; at_sub = s; class = e } in
    let is : view_of_group group of.class ≡ x = ap (λ c. make c group.name.view of.class) complete ∙ (ap (λ s. make x.complete s of.class) view ∙ ap (make x.complete x.at_sub) same) in
    let put : List Table → PlacedTables = λ ts. record { image = placed.image; codes = placed.codes; info = placed.info; tables = ts; at = placed.at } in
    let seen = views.seen h (places_of h rows) group of (setting_of h rows keeps sound (view_of_group group of.class) of.view) placed.image placed.codes placed.info placed.at stands fine in
    subst (λ (v : View). IsSeen h (places_of h rows) v placed) is (subst (λ ts. IsSeen h (places_of h rows) (view_of_group group of.class) (put ts)) (sym tables) seen)
