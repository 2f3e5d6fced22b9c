-- A leaf of an open object reads from memory as its value.
use Rattle.std.proofs.Common.{◌≡◌, ◌∙◌, ℕ, ◌*◌, ◌+◌, ◌^◌, ◌<◌, ◌≤◌, false, Option, Some, None, List, ◌++◌, refl, ap, subst, sym, arith}
use Rattle.std.specs.Prelude.{codes, not}
use Rattle.std.specs.Fmt.{signed_decimal}
use Rattle.std.specs.List.{flat_map, slice_get}
use Rattle.std.proofs.Math.Nat.{mod-eq_of_lt}
use Rattle.foundation.proofs.Places.{contains_at}
use Rattle.cxx_hierarchy.specs.declared.records.ClassId.{ClassId}
use Rattle.cxx_hierarchy.specs.declared.records.FieldType.TheVariants.{Value as ValueField}
use Rattle.cxx_hierarchy.specs.declared.records.ValueType.{ValueType}
use Rattle.cxx_hierarchy.specs.declared.records.ValueType.TheVariants.{Number as NumberType, Pointer as PointerType}
use Rattle.cxx_hierarchy.specs.Classes.{members_of, width_in, width_of_member}
use Rattle.cxx_program.specs.Typed.{width_within}
use Rattle.path_model.specs.Values.{Leaf, Objects, Value, Unset, Number, Null, Pointer}
use Rattle.path_model.specs.Outs.{dump_leaf, class_or_first, object_class, shown}
use Rattle.path_model.specs.TypedStates.{IsInBitField, IsLeafMade, IsValue}
use Rattle.byte_memory.specs.Bits.{number_from}
use Rattle.byte_memory.specs.Regions.{fault_at}
use Rattle.byte_memory.specs.Store.{Store, answer, byte_span, load_bits_of, load_of}
use Rattle.byte_memory.proofs.PageBits.{bytes_power}
use Rattle.byte_machine.specs.declared.heap.Opened.{Opened}
use Rattle.byte_machine.specs.Running.{moved}
use Rattle.abi_sound.specs.Places.{size_of_value}
use Rattle.abi_sound.specs.Locations.{bits_of_value, last_member, place_along_hops}
use Rattle.agree_parts.specs.Heaps.{object_start}
use Rattle.agree_parts.specs.Addresses.{leaf_address}
use Rattle.agree_parts.specs.Placed.{AreObjectsLaid, LieIn}
use Rattle.agree_parts.proofs.Found.{reached_open}
use Rattle.agree_parts.proofs.Inside.{leaf_bytes, leaf_whole}
use Rattle.agree_parts.proofs.Made.{bits_from_part, leaf_at, leaf_hops, leaf_last}
use Rattle.agree_parts.proofs.Sizes.{element_some, value_some}
use Rattle.agree_relation.specs.Worlds.{World, IsProgramWorld, world_classes, places_in}
use Rattle.agree_relation.specs.Words.{AreBitsOf, heap_of, word_modulo, word_of_value}
use Rattle.agree_relation.specs.Columns.{LeavesStand, ObjectsStand}
use Rattle.agree_relation.proofs.Objects.{object_has_region, objects_laid, objects_placed, objects_regions}
use Rattle.abi_print.specs.LayoutTexts.{bits_text, value_type_text}
use Rattle.text_told.specs.Fields.{field_name_text, type_behind}
use Rattle.text_told.specs.Dumps.{byte_text, bytes_touched, held_text, kept_text, leaf_by_type, leaf_item, member_leaf_item, stored_text}
use Rattle.text_told.specs.declared.items.Item.{Item}
use Rattle.text_bytes.specs.declared.rows.LeafRow.{LeafRow}
use Rattle.text_bytes.specs.RawDumps.{loaded_text, number_text, read_text, row_by_type, row_item}
use Rattle.text_bytes.specs.Reads.{HasTypedLeaves}
use Rattle.text_bytes.proofs.Addresses.{part_read}
use Rattle.text_bytes.proofs.BitReads.{bits_read}
use Rattle.text_bytes.proofs.Bytes.{stored_bytes}
use Rattle.text_bytes.proofs.RowsOfLeaves.{IsRowOf}

module _ (w : World) (world : IsProgramWorld w) (s : Objects) (memory : Store) (opened : List Opened) (heap : ℕ) (o : ObjectsStand w s memory.regions opened heap) where
  -- the word of a value reads as the value
  value_read : (at : ℕ) (t : ValueType ClassId) (v : Value) → IsValue (world_classes w) s.classes v t →
      loaded_text opened t (answer at None (word_modulo w (heap_of s.classes memory.regions) (256 ^ size_of_value t) v)) ≡ stored_text (world_classes w) (places_in w) (size_of_value t) (shown s v)
  value_read at t Unset is = refl
  value_read at (NumberType t) (Number z) is = ap (flat_map byte_text) (stored_bytes t z)
  value_read at (PointerType c) (Number z) is = absurd is
  value_read at (NumberType t) Null is = absurd is
  value_read at (PointerType c) Null is = refl
  value_read at (NumberType t) (Pointer p) is = absurd is
  value_read at (PointerType c) (Pointer p) is = part_read w s memory.regions opened heap o world p c is

  -- and so do its bits in a bit-field, which is of a number type
  bits_value_read : (at : ℕ) (t : ValueType ClassId) (n : ℕ) (v : Value) → n ≤ 64 → ((c : ClassId) → t ≡ PointerType c → ⊥) → IsValue (world_classes w) s.classes v t → IsInBitField (Some n) v t →
      number_text t n (answer at None (word_of_value w (heap_of s.classes memory.regions) n v)) ≡ kept_text (shown s v)
  bits_value_read at t n Unset few number is held = refl
  bits_value_read at (NumberType t) n (Number z) few number is held = ap signed_decimal (bits_read t n z few held)
  bits_value_read at (PointerType c) n v few number is held = absurd (number c refl)
  bits_value_read at (NumberType t) n Null few number is held = absurd is
  bits_value_read at (NumberType t) n (Pointer p) few number is held = absurd is

  module _ (leaves : LeavesStand w s memory) (typed : HasTypedLeaves w s) (k : ℕ) (c : ClassId) (class : slice_get s.classes k ≡ Some c) (open_there : s.is_closed k ≡ false) (a : Leaf) (t : ValueType ClassId) (object : a.part.object ≡ k) (made : IsLeafMade (world_classes w) s.classes a t) where
    -- the address of the leaf, its width where it is a bit-field, and its first bit
    abbrev leaf_place : ℕ
    leaf_place = leaf_address (world_classes w) (places_in w) (heap_of s.classes memory.regions) a

    abbrev leaf_width : Option ℕ
    leaf_width = width_of_member (world_classes w) made.class a.member

    abbrev leaf_first : ℕ
    leaf_first = (places_in w).first made.class a.member

    laid : AreObjectsLaid (world_classes w) w.setup.rows (heap_of s.classes memory.regions)
    laid = objects_laid w s memory.regions opened heap world o

    is_open : s.is_closed a.part.object ≡ false
    is_open = ap s.is_closed object ∙ open_there

    -- its bits are its value
    bits_are : number_from memory.bit (8 * leaf_place + leaf_first) (bits_of_value leaf_width t) ≡ word_of_value w (heap_of s.classes memory.regions) (bits_of_value leaf_width t) (s.leaf a)
    bits_are =
        (subst (AreBitsOf w (heap_of s.classes memory.regions) (s.leaf a) memory.bit) (bits_from_part (world_classes w) (places_in w) (heap_of s.classes memory.regions) a made.class t made.part.of_class made.element) (leaves.leaf a t made is_open)).is

    -- the bytes that they touch are reached
    bytes_reached : (n : ℕ) → 0 < n → LieIn (places_in w) (heap_of s.classes memory.regions) a.part.object leaf_place n → fault_at memory.regions leaf_place n ≡ None
    bytes_reached n some inside =
        let g = heap_of s.classes memory.regions in
        let region = object_has_region w s memory.regions opened heap a.part.object made.part.class o made.part.made in
        reached_open (world_classes w) (places_in w) g memory.regions region.region a.part.object leaf_place n (objects_placed w s memory.regions opened heap o) (objects_regions w s memory.regions opened heap o) some inside region.there (region.of.is_open ∙ ap not is_open)

    touched : LieIn (places_in w) (heap_of s.classes memory.regions) a.part.object leaf_place (byte_span leaf_first (bits_of_value leaf_width t))
    touched = leaf_bytes (world_classes w) w.setup.rows (heap_of s.classes memory.regions) a made.class t laid made.part made.element

    -- a number or a pointer that fills its bytes
    whole_read : leaf_width ≡ None → loaded_text opened t (load_of memory leaf_place (size_of_value t)) ≡ stored_text (world_classes w) (places_in w) (size_of_value t) (shown s (s.leaf a))
    whole_read none =
        let g = heap_of s.classes memory.regions in
        let size = size_of_value t in
        let first : leaf_first ≡ 0 = leaf_whole (world_classes w) w.setup.rows g a made.class t laid made.part made.element none in
        let bits : bits_of_value leaf_width t ≡ 8 * size = ap (λ (width : Option ℕ). bits_of_value width t) none in
        let bytes : byte_span leaf_first (bits_of_value leaf_width t) ≡ size = omega arith in
        let reached : fault_at memory.regions leaf_place size ≡ None = bytes_reached size (value_some t) (subst (LieIn (places_in w) g a.part.object leaf_place) bytes touched) in
        let start : 8 * leaf_place + leaf_first ≡ 8 * leaf_place = omega arith in
        let are : number_from memory.bit (8 * leaf_place) (8 * size) ≡ word_modulo w g (256 ^ size) (s.leaf a) =
        ap (λ (i : ℕ). number_from memory.bit i (8 * size)) (sym start)
        ∙ (ap (λ (b : ℕ). number_from memory.bit (8 * leaf_place + leaf_first) b) (sym bits)
        ∙ (bits_are ∙ (ap (λ (b : ℕ). word_of_value w g b (s.leaf a)) bits ∙ ap (λ (m : ℕ). word_modulo w g m (s.leaf a)) (sym (bytes_power size))))) in
        ap (λ fault. loaded_text opened t (answer leaf_place fault (number_from memory.bit (8 * leaf_place) (8 * size)))) reached
        ∙ (ap (λ word. loaded_text opened t (answer leaf_place None word)) are ∙ value_read leaf_place t (s.leaf a) (typed.leaf a t made))

    -- what the bits of a bit-field hold
    held : (n : ℕ) → leaf_width ≡ Some n → IsInBitField (Some n) (s.leaf a) t
    held n some =
        subst (λ (width : Option ℕ). IsInBitField width (s.leaf a) t) (ap (λ (d : Option ClassId). width_within (world_classes w) d a.member) made.part.of_class ∙ some) (typed.held a t made)

    -- it is of a number type
    is_number : (n : ℕ) → leaf_width ≡ Some n → (d : ClassId) → t ≡ PointerType d → ⊥
    is_number n some d pointer =
        let element = made.element in
        let field = laid.hierarchy.widths made.class element.member n (contains_at (members_of (world_classes w) made.class) a.member element.member element.there) (sym (ap width_in element.there) ∙ some) in
        let same : ValueField (NumberType field.type) ≡ ValueField (PointerType d) = sym field.is ∙ (element.type_is ∙ ap (λ (type : ValueType ClassId). ValueField type) pointer) in
        cc

    -- a bit-field
    bits_read_there : (n : ℕ) → leaf_width ≡ Some n → number_text t n (load_bits_of memory leaf_place leaf_first n) ≡ kept_text (shown s (s.leaf a))
    bits_read_there n some =
        let g = heap_of s.classes memory.regions in
        let bits : bits_of_value leaf_width t ≡ n = ap (λ (width : Option ℕ). bits_of_value width t) some in
        let near = element_some (world_classes w) made.class a.member a.index t laid.hierarchy made.element in
        let low : 0 < bits_of_value leaf_width t = near.0 in
        let high : bits_of_value leaf_width t ≤ 64 = near.1 in
        let reached : fault_at memory.regions leaf_place (byte_span leaf_first n) ≡ None =
        bytes_reached (byte_span leaf_first n) (omega arith) (subst (λ (b : ℕ). LieIn (places_in w) g a.part.object leaf_place (byte_span leaf_first b)) bits touched) in
        let are : number_from memory.bit (8 * leaf_place + leaf_first) n ≡ word_of_value w g n (s.leaf a) =
        subst (λ (b : ℕ). number_from memory.bit (8 * leaf_place + leaf_first) b ≡ word_of_value w g b (s.leaf a)) bits bits_are in
        ap (λ fault. number_text t n (answer leaf_place fault (number_from memory.bit (8 * leaf_place + leaf_first) n))) reached
        ∙ (ap (λ word. number_text t n (answer leaf_place None word)) are ∙ bits_value_read leaf_place t n (s.leaf a) (omega arith) (is_number n some) (typed.leaf a t made) (held n some))

    -- what stands in a leaf of an open object
    leaf_read : (width : Option ℕ) → leaf_width ≡ width → read_text memory opened leaf_place width leaf_first t ≡ held_text (world_classes w) (places_in w) width leaf_first t (shown s (s.leaf a))
    leaf_read None none = whole_read none
    leaf_read (Some n) some = ap (λ (text : List ℕ). bits_text leaf_first n ++ codes " " ++ text) (bits_read_there n some)

    -- the class of its object
    object_is : made.part.class ≡ c
    object_is = let owner : Some made.part.class ≡ Some c = sym made.part.made ∙ (ap (slice_get s.classes) object ∙ class) in cc

    class_is : object_class s a.part.object ≡ c
    class_is = ap (λ j. class_or_first (slice_get s.classes j)) object ∙ ap class_or_first class

    -- the member of which it is an element
    last_is : last_member (world_classes w) (Some (object_class s a.part.object)) (leaf_hops a) ≡ Some (made.class, a.member)
    last_is =
        ap (λ (d : ClassId). last_member (world_classes w) (Some d) (leaf_hops a)) (class_is ∙ sym object_is) ∙ leaf_last (world_classes w) (heap_of s.classes memory.regions) a t made

    -- where it lies
    leaf_lies : (place : ℕ) → place_along_hops (world_classes w) (places_in w) c (leaf_hops a) ≡ place → moved (object_start (heap_of s.classes memory.regions) k) place ≡ leaf_place
    leaf_lies place there =
        let h = world_classes w in
        let l = places_in w in
        let g = heap_of s.classes memory.regions in
        let at : leaf_place ≡ object_start g a.part.object + place_along_hops h l made.part.class (leaf_hops a) = leaf_at h l g a t made in
        let start : object_start g a.part.object ≡ object_start g k = ap (object_start g) object in
        let same : place_along_hops h l made.part.class (leaf_hops a) ≡ place = ap (λ (d : ClassId). place_along_hops h l d (leaf_hops a)) object_is ∙ there in
        let high = touched.high in
        let limit = (objects_placed w s memory.regions opened heap o).limit a.part.object touched.class touched.start touched.object in
        let sum : object_start g k + place ≡ leaf_place = omega arith in
        let small : object_start g k + place < 2 ^ 64 = omega arith in
        mod-eq_of_lt small ∙ sum

  module _ (leaves : LeavesStand w s memory) (typed : HasTypedLeaves w s) (k : ℕ) (c : ClassId) (class : slice_get s.classes k ≡ Some c) (open_there : s.is_closed k ≡ false) where
    -- a leaf as an item
    pub item_read : (a : Leaf) (row : LeafRow) → IsRowOf (world_classes w) (places_in w) s.classes k c a row →
        leaf_item (world_classes w) (places_in w) (dump_leaf s a) ≡ row_item (world_classes w) memory opened (object_start (heap_of s.classes memory.regions) k) row
    item_read a row of =
        let h = world_classes w in
        let l = places_in w in
        let t = of.type in
        let made = of.made in
        let start : ℕ = object_start (heap_of s.classes memory.regions) k in
        let width = width_of_member h made.class a.member in
        let first = l.first made.class a.member in
        let make : ℕ → Option ℕ → ℕ → List ℕ → List ℕ → Item = λ place bits bit held name. record { place = place; first = bit; size = bytes_touched bit (bits_of_value bits t); text = held ++ codes " " ++ value_type_text h t ++ codes " " ++ name } in
        let reads : Option ℕ → ℕ → List ℕ = λ bits bit. read_text memory opened (moved start row.place) bits bit t in
        let held : List ℕ = held_text h l width first t (shown s (s.leaf a)) in
        let same_class = class_is leaves typed k c class open_there a t of.object made in
        let typed_there : type_behind h (Some (object_class s a.part.object)) (leaf_hops a) ≡ Some t = ap (λ (d : ClassId). type_behind h (Some d) (leaf_hops a)) same_class ∙ of.leads in
        let place : place_along_hops h l (object_class s a.part.object) (leaf_hops a) ≡ row.place = ap (λ (d : ClassId). place_along_hops h l d (leaf_hops a)) same_class ∙ of.place in
        let read : held ≡ reads width first =
        sym (ap (λ (at : ℕ). read_text memory opened at width first t) (leaf_lies leaves typed k c class open_there a t of.object made row.place of.place) ∙ leaf_read leaves typed k c class open_there a t of.object made width refl) in
        let widths : width ≡ width_of_member h row.class row.number = ap (λ (d : ClassId). width_of_member h d a.member) (sym of.class) ∙ ap (width_of_member h row.class) (sym of.number) in
        let firsts : first ≡ row.first = ap (λ (d : ClassId). l.first d a.member) (sym of.class) ∙ (ap (l.first row.class) (sym of.number) ∙ sym of.first) in
        ap (member_leaf_item h l (dump_leaf s a)) (last_is leaves typed k c class open_there a t of.object made)
        ∙ (ap (leaf_by_type h l (dump_leaf s a) width first) typed_there
        ∙ (ap (λ (at : ℕ). make at width first held (field_name_text h (leaf_hops a))) place
        ∙ (ap (λ (text : List ℕ). make row.place width first text (field_name_text h (leaf_hops a))) read
        ∙ (ap (make row.place width first (reads width first)) of.name
        ∙ (ap (λ (bits : Option ℕ). make row.place bits first (reads bits first) row.name) widths
        ∙ (ap (λ (bit : ℕ). make row.place (width_of_member h row.class row.number) bit (reads (width_of_member h row.class row.number) bit) row.name) firsts
        ∙ sym (ap (row_by_type h memory opened start row (width_of_member h row.class row.number)) of.member)))))))
