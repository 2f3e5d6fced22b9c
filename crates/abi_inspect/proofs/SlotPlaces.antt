-- Virtual pointers and leaves lie before the end of their object, and bit-fields are narrow.
use Rattle.std.proofs.Common.{◌≡◌, ℕ, ◌+◌, ◌-◌, ◌*◌, ◌<◌, ◌≤◌, ⊎_elim, inl, inr, arith, Option, Some, None, List, [], ◌∷◌, ◌++◌, map, length, refl, subst}
use Rattle.std.specs.Prelude.{codes, filter, nat_lt, Bool, true, false, max}
use Rattle.std.specs.Fmt.{decimal}
use Rattle.std.specs.List.{range_with_len}
use Rattle.foundation.proofs.Members.{Has, from_flat_map, from_map, has_cases}
use Rattle.foundation.proofs.Chosen.{has_filter}
use Rattle.foundation.proofs.Truth.{split}
use Rattle.cxx_hierarchy.specs.declared.records.ClassId.{ClassId}
use Rattle.cxx_hierarchy.specs.declared.records.ValueType.{ValueType}
use Rattle.cxx_hierarchy.specs.Classes.{Classes, width_of_member, element_type}
use Rattle.cxx_hierarchy.specs.Hierarchies.{IsHierarchy}
use Rattle.abi_sound.specs.declared.class_layout.ClassLayout.{ClassLayout}
use Rattle.abi_sound.specs.Places.{Places, places_of}
use Rattle.abi_sound.specs.Locations.{bits_of_value}
use Rattle.abi_sound.specs.Sound.{IsSoundLayout}
use Rattle.text_told.specs.declared.items.Item.{Item}
use Rattle.text_told.specs.declared.pointers.TablePointer.{TablePointer}
use Rattle.text_told.specs.Fields.{member_at}
use Rattle.text_told.specs.Pointers.{pointers_of}
use Rattle.text_told.specs.Dumps.{pointer_item}
use Rattle.text_told.proofs.Leading.{few_touched}
use Rattle.text_told.proofs.Objects.{pointer_inside}
use Rattle.text_bytes.specs.declared.rows.LeafRow.{LeafRow}
use Rattle.text_bytes.specs.LeafRows.{leaf_rows}
use Rattle.text_bytes.proofs.RowPlaces.{row_inside, row_starts}
use Rattle.abi_inspect.specs.declared.slots.Slot.{Slot}
use Rattle.abi_inspect.specs.declared.slots.LeafLine.{LeafLine}
use Rattle.abi_inspect.specs.declared.slots.Row.{Row}
use Rattle.abi_inspect.specs.declared.slots.Row.TheVariants.{Fixed, Leaf}
use Rattle.abi_inspect.specs.Rows.{slot_starts_at, slot_bit, slots_by_place, gap_rows, typed_leaf_slot, leaf_slot, pointer_slot, rows_from, slots_of}
use Rattle.abi_inspect.specs.invariants.Readable.{IsNarrow}

-- the leaf of a row has at most 64 bits
abbrev pub IsNarrowRow : Row → Type 0
IsNarrowRow (Fixed text) = Unit {0}
IsNarrowRow (Leaf x) = IsNarrow x.bits.width

-- the slot begins in the object, its first bit is one of a byte, it touches few bytes, and it is narrow
pub record LiesIn (size : ℕ) (slot : Slot) : Type 0 where
  pub inside : slot.place < size
  pub near : slot.first < 8
  pub few : slot.size ≤ 8
  pub narrow : IsNarrowRow slot.row

pub begins_inside : (size : ℕ) (slot : Slot) → LiesIn size slot → slot_bit slot < 8 * size
begins_inside size slot lies = let inside = lies.inside in let near = lies.near in omega arith

narrow_by : (row : LeafRow) (width : Option ℕ) → ((t : ValueType ClassId) → row.first + bits_of_value width t ≤ 64) → (t : ValueType ClassId) → IsNarrow width
narrow_by row None near t = tt
narrow_by row (Some n) near t = let le = near t in omega (arith, le)

leaf_lies : (size : ℕ) (row : LeafRow) (width : Option ℕ) (o : Option (ValueType ClassId)) → row.place < size → (row.first < 8) × ((t : ValueType ClassId) → row.first + bits_of_value width t ≤ 64) → LiesIn size (typed_leaf_slot row width o)
leaf_lies size row width None lt near = record { inside = lt; near = omega arith; few = omega arith; narrow = tt }
leaf_lies size row width (Some type) lt near = record { inside = lt; near = near.0; few = few_touched row.first (bits_of_value width type) (near.1 type); narrow = narrow_by row width near.1 type }

pub slots_lie : (h : Classes) (rows : List ClassLayout) → IsHierarchy h → IsSoundLayout h rows → (c : ClassId) → c.0 < length h → (slot : Slot) → Has (slots_of h (places_of h rows) c) slot → LiesIn ((places_of h rows).size c) slot
slots_lie h rows keeps sound c known slot has = ⊎_elim from_pointer from_leaf (has_cases (map pointer_slot (map (pointer_item h) (pointers_of h l c))) (map (leaf_slot h) (leaf_rows h l c)) slot has)
  where
    l : Places
    l = places_of h rows

    pointer_lies : (item : Item) → (p : TablePointer) → Has (pointers_of h l c) p → pointer_item h p ≡ item → LiesIn (l.size c) (pointer_slot item)
    pointer_lies item p there is =
        subst (λ (i : Item). LiesIn (l.size c) (pointer_slot i)) is (record { inside = pointer_inside h rows sound (c.0 + 1) c p known there; near = omega arith; few = omega arith; narrow = tt })

    from_pointer : Has (map pointer_slot (map (pointer_item h) (pointers_of h l c))) slot → LiesIn (l.size c) slot
    from_pointer at =
        let f = from_map pointer_slot (map (pointer_item h) (pointers_of h l c)) slot at in
        let g = from_map (pointer_item h) (pointers_of h l c) f.0 f.1 in
        subst (LiesIn (l.size c)) f.2 (pointer_lies f.0 g.0 g.1 g.2)

    from_leaf : Has (map (leaf_slot h) (leaf_rows h l c)) slot → LiesIn (l.size c) slot
    from_leaf at =
        let f = from_map (leaf_slot h) (leaf_rows h l c) slot at in
        let row = f.0 in
        subst (LiesIn (l.size c)) f.2 (leaf_lies (l.size c) row (width_of_member h row.class row.number) (element_type (member_at h (Some row.class) row.number)) (row_inside h rows keeps sound (c.0 + 1) c row known f.1)
        (row_starts h rows sound (c.0 + 1) c row known f.1))

pub from_by_place : (size : ℕ) (slots : List Slot) (slot : Slot) → Has (slots_by_place size slots) slot → Has slots slot
from_by_place size slots slot has =
    let f = from_flat_map (λ bit. filter (slot_starts_at bit) slots) (range_with_len 0 (8 * size)) slot has in
    (has_filter (slot_starts_at f.0) slots slot f.2).0

-- the leaves among rows are those of slots

some_gap : (from to : ℕ) → nat_lt from to ≡ true → gap_rows from to ≡ Fixed (decimal from ++ codes " pad " ++ decimal (to - from)) ∷ []
some_gap from to e = rw e refl

no_gap : (from to : ℕ) → nat_lt from to ≡ false → gap_rows from to ≡ []
no_gap from to e = rw e refl

fixed_alone : (text : List ℕ) (x : LeafLine) → Has (Fixed text ∷ []) (Leaf x) → ⊥
fixed_alone text x (inl e) = cc
fixed_alone text x (inr h) = absurd h

no_gap_leaf : (from to : ℕ) (x : LeafLine) → Has (gap_rows from to) (Leaf x) → ⊥
no_gap_leaf from to x has =
    split (nat_lt from to) (λ (b : Bool). nat_lt from to ≡ b → ⊥)
    (λ e f. fixed_alone (decimal from ++ codes " pad " ++ decimal (to - from)) x (subst (λ (rs : List Row). Has rs (Leaf x)) (some_gap from to e) has))
    (λ e f. absurd (subst (λ (rs : List Row). Has rs (Leaf x)) (no_gap from to e) has))
    refl

pub rows_narrow : (end at : ℕ) (slots : List Slot) → ((slot : Slot) → Has slots slot → IsNarrowRow slot.row) → (x : LeafLine) → Has (rows_from end at slots) (Leaf x) → IsNarrow x.bits.width
rows_narrow end at [] each x has = absurd (no_gap_leaf at end x has)
rows_narrow end at (slot ∷ slots) each x has =
    ⊎_elim (λ h. absurd (no_gap_leaf at slot.place x h)) (behind (λ h. rows_narrow end (max at (slot.place + slot.size)) slots (λ s there. each s (inr there)) x h))
    (has_cases (gap_rows at slot.place) (slot.row ∷ rows_from end (max at (slot.place + slot.size)) slots) (Leaf x) has)
  where
    behind : (Has (rows_from end (max at (slot.place + slot.size)) slots) (Leaf x) → IsNarrow x.bits.width) → Has (slot.row ∷ rows_from end (max at (slot.place + slot.size)) slots) (Leaf x) → IsNarrow x.bits.width
    behind more (inl e) = subst IsNarrowRow e (each slot (inl refl))
    behind more (inr h) = more h
