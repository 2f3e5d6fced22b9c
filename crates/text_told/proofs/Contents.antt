-- What lies in an object lies before its end.
use Rattle.std.proofs.Common.{ℕ, ◌+◌, ◌*◌, ◌<◌, ◌≤◌, ⊎_elim, Option, Some, None, List, map, subst, arith}
use Rattle.std.specs.Prelude.{filter}
use Rattle.std.specs.List.{range_with_len}
use Rattle.foundation.proofs.Members.{Has, contains_from_has, from_flat_map, from_map, has_cases}
use Rattle.foundation.proofs.Chosen.{has_filter}
use Rattle.cxx_hierarchy.specs.declared.records.ClassId.{ClassId}
use Rattle.cxx_hierarchy.specs.declared.records.ValueType.{ValueType}
use Rattle.cxx_hierarchy.specs.declared.records.FieldType.TheVariants.{Value as ValueField}
use Rattle.cxx_hierarchy.specs.Classes.{Classes}
use Rattle.cxx_hierarchy.specs.Hierarchies.{IsHierarchy}
use Rattle.path_model.specs.declared.outs.DumpLeaf.{DumpLeaf}
use Rattle.abi_sound.specs.declared.class_layout.ClassLayout.{ClassLayout}
use Rattle.abi_sound.specs.Places.{Places, places_of}
use Rattle.abi_sound.specs.Locations.{bits_of_value, last_member}
use Rattle.abi_sound.specs.Sound.{IsSoundLayout}
use Rattle.text_told.specs.declared.items.Item.{Item}
use Rattle.text_told.specs.Fields.{first_value_bit, location_place, type_behind, bit_field_width}
use Rattle.text_told.specs.Pointers.{pointers_of}
use Rattle.text_told.specs.Dumps.{AreDumpedLeaves, IsDumpedLeaf, begins_at, bit_of, by_place, dump_items, leaf_by_type, leaf_item, pointer_item}
use Rattle.text_told.proofs.Leading.{ends_inside, few_touched, leaf_near}
use Rattle.text_told.proofs.Objects.{pointer_inside}

-- the item begins in the byte at its place, before the end of the object, and touches at most 8 bytes
pub record LiesIn (size : ℕ) (item : Item) : Type 0 where
  pub inside : item.place < size
  pub near : item.first < 8
  pub few : item.size ≤ 8

-- so its first bit is one of the object
pub begins_inside : (size : ℕ) (item : Item) → LiesIn size item → bit_of item < 8 * size
begins_inside size item lies = let inside = lies.inside in let near = lies.near in omega arith

leaf_lies : (h : Classes) (l : Places) (size : ℕ) (leaf : DumpLeaf) (width : Option ℕ) (first : ℕ) (o : Option (ValueType ClassId)) → location_place h l leaf.at < size → (first < 8) × ((t : ValueType ClassId) → first + bits_of_value width t ≤ 64) →
    LiesIn size (leaf_by_type h l leaf width first o)
leaf_lies h l size leaf width first None lt near = record { inside = lt; near = omega arith; few = omega arith }
leaf_lies h l size leaf width first (Some type) lt near = record { inside = lt; near = near.0; few = few_touched first (bits_of_value width type) (near.1 type) }

leaf_inside : (h : Classes) (rows : List ClassLayout) → IsHierarchy h → IsSoundLayout h rows → (c : ClassId) (leaf : DumpLeaf) → IsDumpedLeaf h c leaf → location_place h (places_of h rows) leaf.at < (places_of h rows).size c
leaf_inside h rows keeps sound c leaf of =
    subst (λ (d : ClassId). location_place h (places_of h rows) leaf.at < (places_of h rows).size d) of.class
    (ends_inside h rows keeps sound leaf.at.class leaf.at.hops (ValueField of.type) of.names.known of.names.leads)

leaf_in : (h : Classes) (rows : List ClassLayout) → IsHierarchy h → IsSoundLayout h rows → (c : ClassId) (leaf : DumpLeaf) → IsDumpedLeaf h c leaf → LiesIn ((places_of h rows).size c) (leaf_item h (places_of h rows) leaf)
leaf_in h rows keeps sound c leaf of =
    let l = places_of h rows in
    let member = last_member h (Some leaf.at.class) leaf.at.hops in
    leaf_lies h l (l.size c) leaf (bit_field_width h member) (first_value_bit l member) (type_behind h (Some leaf.at.class) leaf.at.hops) (leaf_inside h rows keeps sound c leaf of)
    (leaf_near h rows sound leaf.at.class leaf.at.hops of.type of.names.known of.names.leads)

pub lies_in : (h : Classes) (rows : List ClassLayout) → IsHierarchy h → IsSoundLayout h rows → (c : ClassId) (leaves : List DumpLeaf) → AreDumpedLeaves h c leaves → (item : Item) → Has (dump_items h (places_of h rows) c leaves) item → LiesIn ((places_of h rows).size c) item
lies_in h rows keeps sound c leaves dumped item has = ⊎_elim from_pointer from_leaf (has_cases (map (pointer_item h) (pointers_of h (places_of h rows) c)) (map (leaf_item h (places_of h rows)) leaves) item has)
  where
    l : Places
    l = places_of h rows

    from_pointer : Has (map (pointer_item h) (pointers_of h l c)) item → LiesIn (l.size c) item
    from_pointer at =
        let f = from_map (pointer_item h) (pointers_of h l c) item at in
        subst (LiesIn (l.size c)) f.2 (record { inside = pointer_inside h rows sound (c.0 + 1) c f.0 dumped.known f.1; near = omega arith; few = omega arith })

    from_leaf : Has (map (leaf_item h l) leaves) item → LiesIn (l.size c) item
    from_leaf at =
        let f = from_map (leaf_item h l) leaves item at in
        subst (LiesIn (l.size c)) f.2 (leaf_in h rows keeps sound c f.0 (dumped.each f.0 (contains_from_has leaves f.0 f.1)))

pub from_by_place : (size : ℕ) (items : List Item) (item : Item) → Has (by_place size items) item → Has items item
from_by_place size items item has =
    let f = from_flat_map (λ bit. filter (begins_at bit) items) (range_with_len 0 (8 * size)) item has in
    (has_filter (begins_at f.0) items item f.2).0
