-- The leaves of a heap object, as a run tells them, and its rows are one list of entries.
use Rattle.std.proofs.Common.{◌≡◌, ◌∙◌, ℕ, inl, inr, Option, Some, List, [], ◌∷◌, ◌++◌, map, refl, ap, subst, sym}
use Rattle.std.specs.List.{AllZip, slice_get}
use Rattle.foundation.proofs.Members.{Has, contains_from_has, has_map}
use Rattle.foundation.proofs.Places.{contains_at}
use Rattle.foundation.proofs.Zips.{zip_append}
use Rattle.cxx_hierarchy.specs.declared.records.ClassId.{ClassId}
use Rattle.cxx_hierarchy.specs.declared.records.FieldType.TheVariants.{Value as ValueField}
use Rattle.cxx_hierarchy.specs.declared.records.ValueType.{ValueType}
use Rattle.cxx_hierarchy.specs.declared.records.ValueType.TheVariants.{Number as NumberType, Pointer as PointerType}
use Rattle.cxx_hierarchy.specs.Classes.{Classes, members_of, width_in, width_of_member}
use Rattle.cxx_hierarchy.specs.Hierarchies.{IsHierarchy}
use Rattle.path_plan.specs.Whole.{whole_part}
use Rattle.path_model.specs.declared.outs.DumpLeaf.{DumpLeaf}
use Rattle.path_model.specs.Values.{Leaf, Objects}
use Rattle.path_model.specs.Outs.{class_or_first, dump_leaf, object_class, shown}
use Rattle.path_model.specs.Places.{leaves_of}
use Rattle.abi_sound.specs.Places.{Places}
use Rattle.abi_sound.specs.Locations.{last_member, place_along_hops}
use Rattle.agree_parts.specs.Heaps.{Heap}
use Rattle.agree_parts.proofs.Made.{leaf_hops, leaf_last}
use Rattle.text_told.specs.declared.items.Item.{Item}
use Rattle.text_told.specs.declared.pointers.TablePointer.{TablePointer}
use Rattle.text_told.specs.Fields.{field_name_text, first_value_bit, location_place, type_behind, bit_field_width}
use Rattle.text_told.specs.Pointers.{pointers_of}
use Rattle.text_told.specs.Dumps.{leaf_by_type, leaf_item, pointer_item}
use Rattle.text_bytes.specs.declared.rows.LeafRow.{LeafRow}
use Rattle.text_bytes.specs.LeafRows.{leaf_rows}
use Rattle.text_bytes.proofs.RowsOfLeaves.{IsRowOf, rows_are}
use Rattle.abi_inspect.specs.Rows.{leaf_slot, pointer_slot, slots_of}
use Rattle.abi_inspect.specs.Rows.{typed_leaf_slot as slot_by_type}
use Rattle.abi_inspect.specs.Values.{IsValueOf}
use Rattle.agree_dumps.specs.SeenDumps.{ValuesFit, ValueFits, seen_value}
use Rattle.agree_dumps.proofs.Lines.{Entry, IsEntryOf}
use Rattle.agree_dumps.proofs.LeafEntries.{leaf_as_item, leaf_as_slot, leaf_entry_of}

abbrev pub pointer_entry : Classes → TablePointer → Entry
pointer_entry h p = record { item = pointer_item h p; values = [] }

abbrev pub leaf_entry : Classes → Places → DumpLeaf → Entry
leaf_entry h l leaf = record { item = leaf_item h l leaf; values = seen_value h l leaf.value ∷ [] }

-- what lies in an object of class c, with the values of its leaves
abbrev pub entries_of : Classes → Places → ClassId → List DumpLeaf → List Entry
entries_of h l c leaves = map (pointer_entry h) (pointers_of h l c) ++ map (leaf_entry h l) leaves

pointers_go : (h : Classes) (pointers : List TablePointer) → AllZip (IsEntryOf h) (map (pointer_entry h) pointers) (map pointer_slot (map (pointer_item h) pointers))
pointers_go h [] = tt
pointers_go h (p ∷ pointers) = (record { place = refl; first = refl; size = refl; line = (refl, refl) }, pointers_go h pointers)

module _ (h : Classes) (keeps : IsHierarchy h) (l : Places) (s : Objects) (k : ℕ) (c : ClassId) (there : slice_get s.classes k ≡ Some c) where
  module _ (a : Leaf) (row : LeafRow) (of : IsRowOf h l s.classes k c a row) where
    abbrev leaf : DumpLeaf
    leaf = dump_leaf s a

    abbrev width : Option ℕ
    width = width_of_member h row.class row.number

    -- the class of its object
    class_is : object_class s a.part.object ≡ c
    class_is = ap (λ j. class_or_first (slice_get s.classes j)) of.object ∙ ap class_or_first there

    object_is : of.made.part.class ≡ c
    object_is = let owner : Some of.made.part.class ≡ Some c = sym of.made.part.made ∙ (ap (slice_get s.classes) of.object ∙ there) in cc

    -- the member of which it is an element
    last_is : last_member h (Some (object_class s a.part.object)) (leaf_hops a) ≡ Some (of.made.class, a.member)
    last_is =
        let g : Heap = record { classes = s.classes; starts = [] } in
        ap (λ (d : ClassId). last_member h (Some d) (leaf_hops a)) (class_is ∙ sym object_is) ∙ leaf_last h g a of.type of.made

    widths : bit_field_width h (last_member h (Some (object_class s a.part.object)) (leaf_hops a)) ≡ width
    widths = ap (bit_field_width h) last_is ∙ (ap (λ (d : ClassId). width_of_member h d a.member) (sym of.class) ∙ ap (width_of_member h row.class) (sym of.number))

    firsts : first_value_bit l (last_member h (Some (object_class s a.part.object)) (leaf_hops a)) ≡ row.first
    firsts = ap (first_value_bit l) last_is ∙ (ap (λ (d : ClassId). l.first d a.member) (sym of.class) ∙ (ap (l.first row.class) (sym of.number) ∙ sym of.first))

    types : type_behind h (Some (object_class s a.part.object)) (leaf_hops a) ≡ Some of.type
    types = ap (λ (d : ClassId). type_behind h (Some d) (leaf_hops a)) class_is ∙ of.leads

    places : location_place h l leaf.at ≡ row.place
    places = ap (λ (d : ClassId). place_along_hops h l d (leaf_hops a)) class_is ∙ of.place

    item_is : leaf_item h l leaf ≡ leaf_as_item h l row.place width row.first of.type row.name leaf.value
    item_is =
        let member = last_member h (Some (object_class s a.part.object)) (leaf_hops a) in
        let make : ℕ → Option ℕ → ℕ → List ℕ → Item = λ place bits first name. leaf_as_item h l place bits first of.type name (shown s (s.leaf a)) in
        ap (leaf_by_type h l leaf (bit_field_width h member) (first_value_bit l member)) types
        ∙ (ap (λ (bits : Option ℕ). make (location_place h l leaf.at) bits (first_value_bit l member) (field_name_text h (leaf_hops a))) widths
        ∙ (ap (λ first. make (location_place h l leaf.at) width first (field_name_text h (leaf_hops a))) firsts
        ∙ (ap (λ place. make place width row.first (field_name_text h (leaf_hops a))) places
        ∙ ap (make row.place width row.first) of.name)))

    slot_is : leaf_slot h row ≡ leaf_as_slot h l row.place width row.first of.type row.name leaf.value
    slot_is = ap (slot_by_type row width) of.member

    -- a bit-field is of a number type
    is_number : (n : ℕ) → width ≡ Some n → (d : ClassId) → of.type ≡ PointerType d → ⊥
    is_number n some d pointer =
        let element = of.made.element in
        let bits : width_of_member h of.made.class a.member ≡ Some n = ap (λ (e : ClassId). width_of_member h e a.member) (sym of.class) ∙ (ap (width_of_member h row.class) (sym of.number) ∙ some) in
        let field = keeps.widths of.made.class element.member n (contains_at (members_of h of.made.class) a.member element.member element.there) (sym (ap width_in element.there) ∙ bits) in
        let same : ValueField (NumberType field.type) ≡ ValueField (PointerType d) = sym field.is ∙ (element.type_is ∙ ap (λ (type : ValueType ClassId). ValueField type) pointer) in
        cc

    fits_row : ValueFits h l leaf → IsValueOf width of.type (seen_value h l leaf.value)
    fits_row fits =
        let same : Some fits.type ≡ Some of.type = sym fits.leads ∙ types in
        let type_is : fits.type ≡ of.type = cc in
        subst (λ (type : ValueType ClassId). IsValueOf width type (seen_value h l leaf.value)) type_is
        (subst (λ (bits : Option ℕ). IsValueOf bits fits.type (seen_value h l leaf.value)) widths fits.value)

    -- a value that fits the row fits the leaf
    pub fits_of : IsValueOf width of.type (seen_value h l leaf.value) → ValueFits h l leaf
    fits_of value = record { type = of.type; leads = types; value = subst (λ (bits : Option ℕ). IsValueOf bits of.type (seen_value h l leaf.value)) (sym widths) value }

    entry_is : ValueFits h l leaf → IsEntryOf h (leaf_entry h l leaf) (leaf_slot h row)
    entry_is fits =
        subst (IsEntryOf h (leaf_entry h l leaf)) (sym slot_is)
        (subst (λ (item : Item). IsEntryOf h (record { item = item; values = seen_value h l leaf.value ∷ [] }) (leaf_as_slot h l row.place width row.first of.type row.name leaf.value)) (sym item_is)
        (leaf_entry_of h l row.place width row.first of.type row.name leaf.value (fits_row fits) is_number))

  leaves_go : (leaves : List Leaf) (rows : List LeafRow) → ((a : Leaf) → Has leaves a → ValueFits h l (dump_leaf s a)) → AllZip (IsRowOf h l s.classes k c) leaves rows → AllZip (IsEntryOf h) (map (leaf_entry h l) (map (dump_leaf s) leaves)) (map (leaf_slot h) rows)
  leaves_go [] [] fits z = tt
  leaves_go [] (row ∷ rows) fits z = absurd z
  leaves_go (a ∷ leaves) [] fits z = absurd z
  leaves_go (a ∷ leaves) (row ∷ rows) fits z = (entry_is a row z.0 (fits a (inl refl)), leaves_go leaves rows (λ b has. fits b (inr has)) z.1)

  -- the entries of a told object go along with its slots
  pub entries_go : ValuesFit h l (map (dump_leaf s) (leaves_of h c (whole_part k c))) → AllZip (IsEntryOf h) (entries_of h l c (map (dump_leaf s) (leaves_of h c (whole_part k c)))) (slots_of h l c)
  entries_go fits =
      let leaves : List Leaf = leaves_of h c (whole_part k c) in
      let told : List DumpLeaf = map (dump_leaf s) leaves in
      zip_append (IsEntryOf h) (map (pointer_entry h) (pointers_of h l c)) (map (leaf_entry h l) told) (map pointer_slot (map (pointer_item h) (pointers_of h l c))) (map (leaf_slot h) (leaf_rows h l c))
      (pointers_go h (pointers_of h l c))
      (leaves_go leaves (leaf_rows h l c) (λ a has. fits (dump_leaf s a) (contains_from_has told (dump_leaf s a) (has_map (dump_leaf s) leaves a has))) (rows_are h l s.classes k c there))
