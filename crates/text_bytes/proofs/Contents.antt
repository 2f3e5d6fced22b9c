-- What lies in an object lies before its end.
use Rattle.std.proofs.Common.{ℕ, ◌+◌, ◌<◌, ◌≤◌, ⊎_elim, Option, Some, None, List, map, length, subst, arith}
use Rattle.foundation.proofs.Members.{Has, from_map, has_cases}
use Rattle.cxx_hierarchy.specs.declared.records.ClassId.{ClassId}
use Rattle.cxx_hierarchy.specs.declared.records.ValueType.{ValueType}
use Rattle.cxx_hierarchy.specs.Classes.{Classes, width_of_member, element_type}
use Rattle.cxx_hierarchy.specs.Hierarchies.{IsHierarchy}
use Rattle.abi_sound.specs.declared.class_layout.ClassLayout.{ClassLayout}
use Rattle.abi_sound.specs.Places.{Places, places_of}
use Rattle.abi_sound.specs.Locations.{bits_of_value}
use Rattle.abi_sound.specs.Sound.{IsSoundLayout}
use Rattle.byte_memory.specs.Store.{Store}
use Rattle.byte_code.specs.declared.code.ImageBytes.{ImageBytes}
use Rattle.byte_machine.specs.declared.heap.Opened.{Opened}
use Rattle.text_told.specs.declared.items.Item.{Item}
use Rattle.text_told.specs.Fields.{member_at}
use Rattle.text_told.specs.Pointers.{pointers_of}
use Rattle.text_told.proofs.Contents.{LiesIn}
use Rattle.text_told.proofs.Leading.{few_touched}
use Rattle.text_told.proofs.Objects.{pointer_inside}
use Rattle.text_bytes.specs.declared.rows.LeafRow.{LeafRow}
use Rattle.text_bytes.specs.LeafRows.{leaf_rows}
use Rattle.text_bytes.specs.RawDumps.{led_item, raw_items, row_by_type, row_item}
use Rattle.text_bytes.proofs.RowPlaces.{row_inside, row_starts}

row_lies : (h : Classes) (memory : Store) (opened : List Opened) (start size : ℕ) (row : LeafRow) (width : Option ℕ) (o : Option (ValueType ClassId)) → row.place < size → (row.first < 8) × ((t : ValueType ClassId) → row.first + bits_of_value width t ≤ 64) →
    LiesIn size (row_by_type h memory opened start row width o)
row_lies h memory opened start size row width None lt near = record { inside = lt; near = omega arith; few = omega arith }
row_lies h memory opened start size row width (Some type) lt near = record { inside = lt; near = near.0; few = few_touched row.first (bits_of_value width type) (near.1 type) }

pub raw_lies_in : (h : Classes) (rows : List ClassLayout) → IsHierarchy h → IsSoundLayout h rows → (c : ClassId) (image : ImageBytes) (memory : Store) (opened : List Opened) (start : ℕ) → c.0 < length h → (item : Item) → Has (raw_items h (places_of h rows) image memory opened start c) item → LiesIn ((places_of h rows).size c) item
raw_lies_in h rows keeps sound c image memory opened start known item has = ⊎_elim from_pointer from_row (has_cases (map (led_item h image memory start) (pointers_of h l c)) (map (row_item h memory opened start) (leaf_rows h l c)) item has)
  where
    l : Places
    l = places_of h rows

    from_pointer : Has (map (led_item h image memory start) (pointers_of h l c)) item → LiesIn (l.size c) item
    from_pointer at =
        let f = from_map (led_item h image memory start) (pointers_of h l c) item at in
        subst (LiesIn (l.size c)) f.2 (record { inside = pointer_inside h rows sound (c.0 + 1) c f.0 known f.1; near = omega arith; few = omega arith })

    from_row : Has (map (row_item h memory opened start) (leaf_rows h l c)) item → LiesIn (l.size c) item
    from_row at =
        let f = from_map (row_item h memory opened start) (leaf_rows h l c) item at in
        let row = f.0 in
        subst (LiesIn (l.size c)) f.2 (row_lies h memory opened start (l.size c) row (width_of_member h row.class row.number) (element_type (member_at h (Some row.class) row.number)) (row_inside h rows keeps sound (c.0 + 1) c row known f.1)
        (row_starts h rows sound (c.0 + 1) c row known f.1))
