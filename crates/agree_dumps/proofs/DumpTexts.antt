-- The text of a dump that a run tells is the dump of the values that it shows.
use Rattle.std.proofs.Common.{◌≡◌, ◌∙◌, ℕ, ◌+◌, ◌*◌, ◌<◌, ◌≤◌, arith, nat_eq, Bool, Option, Some, None, List, [], ◌++◌, map, length, append_assoc, refl, ap, subst, sym}
use Rattle.std.specs.Prelude.{codes}
use Rattle.std.specs.List.{AllZip, concat, flat_map, range_with_len, slice_get}
use Rattle.std.specs.Fmt.{decimal}
use Rattle.std.proofs.lemmas.List.{map-append}
use Rattle.std.proofs.lemmas.Simd.{map-map}
use Rattle.cxx_hierarchy.specs.declared.records.ClassId.{ClassId}
use Rattle.cxx_hierarchy.specs.Classes.{Classes}
use Rattle.cxx_hierarchy.specs.Hierarchies.{IsHierarchy}
use Rattle.path_plan.specs.Whole.{whole_part}
use Rattle.path_model.specs.declared.outs.DumpLeaf.{DumpLeaf}
use Rattle.path_model.specs.declared.outs.Out.{Out}
use Rattle.path_model.specs.declared.outs.Out.TheVariants.{Dump}
use Rattle.path_model.specs.Values.{Objects}
use Rattle.path_model.specs.Outs.{dump_leaf}
use Rattle.path_model.specs.Places.{leaves_of}
use Rattle.path_model.specs.Effects.{object_out}
use Rattle.abi_sound.specs.Places.{Places}
use Rattle.abi_print.specs.LayoutTexts.{declared_class_name}
use Rattle.text_told.specs.declared.items.Item.{Item}
use Rattle.text_told.specs.Dumps.{begins_at, dump_items, lines_from, object_lines, pointer_item}
use Rattle.text_told.specs.OutTexts.{out_text}
use Rattle.text_told.specs.Pointers.{pointers_of}
use Rattle.abi_inspect.specs.declared.seen.SeenValue.{SeenValue}
use Rattle.abi_inspect.specs.declared.slots.Slot.{Slot}
use Rattle.abi_inspect.specs.Rows.{rows_of, slots_of}
use Rattle.abi_inspect.specs.Rows.{slot_starts_at as slot_begins_at}
use Rattle.abi_inspect.specs.SeenTexts.{AreValuesOf, IsFitting, dump_of_seen, row_lines}
use Rattle.abi_inspect.specs.Values.{most_dumped_number}
use Rattle.agree_dumps.specs.SeenDumps.{ValuesFit, leaf_begins_at, leaves_by_place, seen_of, seen_value}
use Rattle.agree_dumps.proofs.Turns.{in_turn, turn_of_map, values_in_turn, zip_turn}
use Rattle.agree_dumps.proofs.Lines.{Entry, IsEntryOf, all_fit, same_lines}
use Rattle.agree_dumps.proofs.Told.{entries_go, entries_of, leaf_entry, pointer_entry}

abbrev entry_begins_at : ℕ → Entry → Bool
entry_begins_at bit e = begins_at bit e.item

abbrev bits_in : ℕ → List ℕ
bits_in size = range_with_len 0 (8 * size)

-- the entries by place
abbrev ordered : Classes → Places → ClassId → List DumpLeaf → List Entry
ordered h l c leaves = in_turn entry_begins_at (bits_in (l.size c)) (entries_of h l c leaves)

same_bit : (h : Classes) (bit : ℕ) (e : Entry) (slot : Slot) → IsEntryOf h e slot → entry_begins_at bit e ≡ slot_begins_at bit slot
same_bit h bit e slot is = ap (λ place. nat_eq (8 * place + e.item.first) bit) is.place ∙ ap (λ first. nat_eq (8 * slot.place + first) bit) is.first

module _ (h : Classes) (l : Places) (c : ClassId) (leaves : List DumpLeaf) where
  all_items : dump_items h l c leaves ≡ map (λ e. e.item) (entries_of h l c leaves)
  all_items =
      let pointers = pointers_of h l c in
      sym (map-append (λ (e : Entry). e.item) (map (pointer_entry h) pointers) (map (leaf_entry h l) leaves)
      ∙ (ap (λ (items : List Item). items ++ map (λ e. e.item) (map (leaf_entry h l) leaves)) (map-map (λ (e : Entry). e.item) (pointer_entry h) pointers)
      ∙ ap (λ (items : List Item). map (pointer_item h) pointers ++ items) (map-map (λ (e : Entry). e.item) (leaf_entry h l) leaves)))

  -- the lines of the told dump are those of the entries
  told_lines : object_lines h l c leaves ≡ lines_from (l.size c) 0 (map (λ e. e.item) (ordered h l c leaves))
  told_lines =
      ap (λ (items : List Item). lines_from (l.size c) 0 (in_turn begins_at (bits_in (l.size c)) items)) all_items
      ∙ ap (lines_from (l.size c) 0) (turn_of_map (λ (e : Entry). e.item) begins_at entry_begins_at (bits_in (l.size c)) (entries_of h l c leaves) (λ bit e. refl))

  -- and the values are theirs
  told_values : flat_map (λ e. e.values) (ordered h l c leaves) ≡ map (λ leaf. seen_value h l leaf.value) (leaves_by_place h l (l.size c) leaves)
  told_values = values_in_turn (λ (e : Entry). e.values) (pointer_entry h) (leaf_entry h l) (λ (leaf : DumpLeaf). seen_value h l leaf.value) (λ p. refl) (λ leaf. refl) entry_begins_at (leaf_begins_at h l) (bits_in (l.size c)) (pointers_of h l c) leaves (λ bit leaf. refl)

  module _ (go : AllZip (IsEntryOf h) (entries_of h l c leaves) (slots_of h l c)) where
    ordered_go : AllZip (IsEntryOf h) (ordered h l c leaves) (in_turn slot_begins_at (bits_in (l.size c)) (slots_of h l c))
    ordered_go = zip_turn (IsEntryOf h) entry_begins_at slot_begins_at (bits_in (l.size c)) (entries_of h l c leaves) (slots_of h l c) (same_bit h) go

    both_lines : object_lines h l c leaves ++ codes "\n" ≡ codes "\n" ++ concat (row_lines h (rows_of h l c) (map (λ leaf. seen_value h l leaf.value) (leaves_by_place h l (l.size c) leaves)))
    both_lines =
        ap (λ (lines : List ℕ). lines ++ codes "\n") told_lines
        ∙ (sym (same_lines h (l.size c) 0 (ordered h l c leaves) (in_turn slot_begins_at (bits_in (l.size c)) (slots_of h l c)) ordered_go)
        ∙ ap (λ (values : List SeenValue). codes "\n" ++ concat (row_lines h (rows_of h l c) values)) told_values)

    text_is : (n : ℕ) → out_text h l (Dump n c leaves) ≡ dump_of_seen h l (seen_of h l n c leaves)
    text_is n =
        let head : List ℕ = codes "dump #" ++ decimal n ++ codes " " ++ declared_class_name h c ++ codes " " ++ decimal (l.size c) in
        let lines : List ℕ = concat (row_lines h (rows_of h l c) (map (λ leaf. seen_value h l leaf.value) (leaves_by_place h l (l.size c) leaves))) in
        append_assoc head (object_lines h l c leaves) (codes "\n") ∙ (ap (λ (text : List ℕ). head ++ text) both_lines ∙ sym (append_assoc head (codes "\n") lines))

    values_fit : AreValuesOf (rows_of h l c) (map (λ leaf. seen_value h l leaf.value) (leaves_by_place h l (l.size c) leaves))
    values_fit = subst (AreValuesOf (rows_of h l c)) told_values (all_fit h (l.size c) 0 (ordered h l c leaves) (in_turn slot_begins_at (bits_in (l.size c)) (slots_of h l c)) ordered_go)

-- what a state tells of an object that was made

abbrev number_in : Option Out → ℕ
number_in (Some (Dump n c leaves)) = n
number_in other = 0

abbrev class_in : ClassId → Option Out → ClassId
class_in d (Some (Dump n c leaves)) = c
class_in d other = d

abbrev leaves_in : Option Out → List DumpLeaf
leaves_in (Some (Dump n c leaves)) = leaves
leaves_in other = []

module _ (h : Classes) (keeps : IsHierarchy h) (l : Places) (s : Objects) (k n : ℕ) (c : ClassId) (leaves : List DumpLeaf) where
  -- the object is of the class, its number is the next one, and the leaves are its own
  record IsOf : Type 0 where
    there : slice_get s.classes k ≡ Some c
    number : k + 1 ≡ n
    leaves_are : map (dump_leaf s) (leaves_of h c (whole_part k c)) ≡ leaves

  is_of : (o : Option ClassId) → slice_get s.classes k ≡ o → object_out h s k o ≡ Some (Dump n c leaves) → IsOf
  is_of None there told = cc
  is_of (Some d) there told =
      let class : d ≡ c = ap (class_in c) told in
      record {
        there = there ∙ ap (λ (e : ClassId). Some e) class;
        number = ap number_in told;
        leaves_are = ap (λ (e : ClassId). map (dump_leaf s) (leaves_of h e (whole_part k e))) (sym class) ∙ ap leaves_in told;
      }

  module _ (told : object_out h s k (slice_get s.classes k) ≡ Some (Dump n c leaves)) (fits : ValuesFit h l leaves) where
    of : IsOf
    of = is_of (slice_get s.classes k) refl told

    go : AllZip (IsEntryOf h) (entries_of h l c leaves) (slots_of h l c)
    go =
        subst (λ (list : List DumpLeaf). AllZip (IsEntryOf h) (entries_of h l c list) (slots_of h l c)) of.leaves_are
        (entries_go h keeps l s k c of.there (subst (ValuesFit h l) (sym of.leaves_are) fits))

    pub told_text : out_text h l (Dump n c leaves) ≡ dump_of_seen h l (seen_of h l n c leaves)
    told_text = text_is h l c leaves go n

    pub told_fits : c.0 < length h → n ≤ most_dumped_number → IsFitting h l (seen_of h l n c leaves)
    told_fits known high =
        let number : k + 1 ≡ n = of.number in
        record { known = known; low = omega arith; high = high; leaves = values_fit h l c leaves go }
