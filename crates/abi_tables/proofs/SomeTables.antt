-- Each class has tables, where no condition refuses the hierarchy.
use Rattle.std.proofs.Common.{◌<◌, List, length, refl, subst}
use Rattle.cxx_hierarchy.specs.declared.records.ClassId.{ClassId}
use Rattle.cxx_hierarchy.specs.Classes.{Classes}
use Rattle.cxx_hierarchy.specs.Hierarchies.{IsHierarchy}
use Rattle.cxx_overrider.specs.Faults.{HasNoFault}
use Rattle.abi_sound.specs.declared.class_layout.ClassLayout.{ClassLayout}
use Rattle.abi_sound.specs.Places.{places_of}
use Rattle.abi_sound.specs.Sound.{IsSoundLayout}
use Rattle.abi_slots.specs.declared.words.Group.{Group}
use Rattle.abi_slots.specs.declared.words.GroupName.{GroupName}
use Rattle.abi_slots.specs.declared.words.VttWord.{VttWord}
use Rattle.abi_slots.specs.Views.{View, is_head, by_part}
use Rattle.abi_slots.proofs.Lists.{Item, item_filter, from_map}
use Rattle.abi_slots.proofs.Heads.{part_item, some_head}
use Rattle.abi_slots.proofs.Settings.{setting_of}
use Rattle.abi_vtt.specs.Vtts.{VttEntry as VttItem, IsVttWord}
use Rattle.abi_rtti.specs.TypeInfos.{type_info}
use Rattle.abi_tables.specs.Counts.{group_views}
use Rattle.abi_tables.specs.declared.tables.ClassTables.{ClassTables}
use Rattle.abi_tables.specs.Tables.{IsNamed, group_name, group_names, class_items, AreClassTables}
use Rattle.abi_tables.proofs.Along.{some_along}
use Rattle.abi_tables.proofs.GroupViews.{IsItemOf, view_of_part, group_part, class_item}
use Rattle.abi_tables.proofs.SomeGroup.{some_group}

module _ (h : Classes) (rows : List ClassLayout) (keeps : IsHierarchy h) (sound : IsSoundLayout h rows) (c : ClassId) (known : c.0 < length h) where
  some_named : HasNoFault h → (name : GroupName) → Item (group_names h c) name → (group : Group) × IsNamed h (places_of h rows) name group
  some_named fine name i =
      let l = places_of h rows in
      let r = from_map (group_name c) (group_views h c) name i in
      let part = group_part h keeps c r.0 r.1 in
      let x : View = record { complete = c; at_sub = r.0; class = part.class } in
      let made = some_group h l fine c r.0 known part (setting_of h rows keeps sound x (view_of_part h c r.0 known part)) in
      (made.0, subst (λ n. IsNamed h l n made.0) r.2 made.1)

  some_word : (i : VttItem) → IsItemOf h c i → (word : VttWord) × IsVttWord h (places_of h rows) c i word
  some_word i of =
      let l = places_of h rows in
      let x : View = record { complete = c; at_sub = i.view; class = of.view.class } in
      let r = some_head h l x (setting_of h rows keeps sound x (view_of_part h c i.view known of.view)) i.served of.served.class of.served.valid of.served.of_class of.served.dynamic in
      let at = item_filter (is_head h l x) (by_part h x.class) r.0 (part_item h keeps x.class r.0 r.1.valid) r.1.head in
      let word : VttWord = record { group = group_name c i.view; table = at.index } in
      (word, record { complete = refl; view = refl; class = of.view.class; of_class = of.view.of_class; head = r.0; there = at.there; serves = r.1 })

  pub some_tables : HasNoFault h → (tables : ClassTables) × AreClassTables h (places_of h rows) c tables
  some_tables fine =
      let l = places_of h rows in
      let groups = some_along (IsNamed h l) (group_names h c) (λ name i. some_named fine name i) in
      let words = some_along (IsVttWord h l c) (class_items h l c) (λ i there. some_word i (class_item h keeps l c i there)) in
      let tables : ClassTables = record { groups = groups.0; vtt = words.0; info = type_info h l c } in
      (tables, record { groups = groups.1; vtt = words.1; info = refl })
