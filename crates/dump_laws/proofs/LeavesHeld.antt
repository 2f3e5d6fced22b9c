-- The bits of a leaf that a dump tells are its value.
use Rattle.std.proofs.Common.{◌≡◌, ◌∙◌, ℕ, ◌+◌, ◌*◌, false, Option, Some, List, [], ◌∷◌, map, refl, ap, subst, sym}
use Rattle.std.specs.Prelude.{slice_get, Contains}
use Rattle.foundation.proofs.Members.{from_map, has_from_contains}
use Rattle.foundation.proofs.Zips.{zip_has}
use Rattle.cxx_hierarchy.specs.declared.records.ClassId.{ClassId}
use Rattle.cxx_hierarchy.specs.declared.records.ValueType.{ValueType}
use Rattle.cxx_hierarchy.specs.declared.records.ValueType.TheVariants.{Number as NumberType, Pointer as PointerType}
use Rattle.cxx_subobject.specs.Locations.{ObjectPart, hops_of}
use Rattle.path_plan.specs.Whole.{whole_part}
use Rattle.path_model.specs.declared.outs.DumpLeaf.{DumpLeaf}
use Rattle.path_model.specs.declared.outs.Value.TheVariants.{Unset as ShownUnset}
use Rattle.path_model.specs.Values.{Leaf, Objects, Value, Unset, Number, Null, Pointer}
use Rattle.path_model.specs.Outs.{class_or_first, dump_leaf, location_of, object_class, shown}
use Rattle.path_model.specs.Places.{leaves_of}
use Rattle.path_model.specs.TypedStates.{IsLeafMade, IsPartMade, IsValue}
use Rattle.abi_sound.specs.Locations.{Span, leaf_span, place_along_hops}
use Rattle.byte_memory.specs.Bits.{number_from}
use Rattle.byte_machine.specs.Turn.{ByteState}
use Rattle.agree_parts.specs.Heaps.{Heap, object_start}
use Rattle.agree_parts.specs.Addresses.{address, leaf_bits, span}
use Rattle.agree_parts.proofs.Made.{leaf_hops, leaf_span_is, part_at}
use Rattle.agree_relation.specs.Worlds.{World, world_classes, places_in}
use Rattle.agree_relation.specs.Words.{AreBitsOf, heap_of, word_of_value}
use Rattle.agree_relation.specs.Columns.{ColumnsStand}
use Rattle.agree_relation.proofs.Listed.{listed_in, object_listed}
use Rattle.text_bytes.specs.declared.rows.LeafRow.{LeafRow}
use Rattle.text_bytes.specs.LeafRows.{leaf_rows}
use Rattle.text_bytes.proofs.RowsOfLeaves.{IsRowOf, rows_are}
use Rattle.dump_laws.specs.DumpsHeld.{HoldsLeaf, HoldsValue, IsAddressOf}

unset_told : (s : Objects) (v : Value) → shown s v ≡ ShownUnset → v ≡ Unset
unset_told s Unset e = refl
unset_told s (Number z) e = cc
unset_told s Null e = cc
unset_told s (Pointer p) e = cc

module _ (w : World) (s : Objects) (b : ByteState) (columns : ColumnsStand w s b.memory b.objects b.heap b.notes) where
  abbrev g : Heap
  g = heap_of s.classes b.memory.regions

  part_told : (p : ObjectPart) (c : ClassId) → IsPartMade (world_classes w) s.classes p c → IsAddressOf (world_classes w) (places_in w) b.objects (location_of s p) (address (world_classes w) (places_in w) g p)
  part_told p c made =
      let h = world_classes w in
      let l = places_in w in
      let class : object_class s p.object ≡ made.class = ap class_or_first made.made in
      record {
        index = p.object;
        number = refl;
        object = listed_in w g p.object made.class;
        listed = object_listed w s b.memory.regions b.objects b.heap p.object made.class columns.objects made.made;
        named = refl;
        class = ap (λ (d : ClassId). d.0) (sym class);
        is = part_at h l g p c made ∙ ap (λ (d : ClassId). object_start g p.object + place_along_hops h l d (hops_of p.owner p.at)) (sym class);
      }

  -- a word of a value is what is told of it
  value_told : (bits : ℕ) (v : Value) (t : ValueType ClassId) → IsValue (world_classes w) s.classes v t → (word : Option ℕ) → word ≡ word_of_value w g bits v → HoldsValue (world_classes w) (places_in w) b.objects bits (shown s v) word
  value_told bits Unset t is word e = e
  value_told bits (Number z) t is word e = e
  value_told bits Null t is word e = e
  value_told bits (Pointer p) (NumberType t) is word e = absurd is
  value_told bits (Pointer p) (PointerType c) is word e = (address (world_classes w) (places_in w) g p, e, part_told p c is)

  module _ (typed : (a : Leaf) (t : ValueType ClassId) → IsLeafMade (world_classes w) s.classes a t → IsValue (world_classes w) s.classes (s.leaf a) t) (k : ℕ) (c : ClassId) (there : slice_get s.classes k ≡ Some c) (open_there : s.is_closed k ≡ false) where
    abbrev place_in : Leaf → Span
    place_in a = leaf_span (world_classes w) (places_in w) c (leaf_hops a)

    bits_told : (a : Leaf) (t : ValueType ClassId) → a.part.object ≡ k → IsLeafMade (world_classes w) s.classes a t → AreBitsOf w g (s.leaf a) b.memory.bit (span (8 * object_start g k + (place_in a).start) (place_in a).length)
    bits_told a t object made =
        let h = world_classes w in
        let l = places_in w in
        let known : slice_get s.classes k ≡ Some made.part.class = ap (slice_get s.classes) (sym object) ∙ made.part.made in
        let some : Some made.part.class ≡ Some c = sym known ∙ there in
        let class : made.part.class ≡ c = cc in
        let placed : leaf_bits h l g a ≡ span (8 * object_start g k + (place_in a).start) (place_in a).length =
        leaf_span_is h l g a t made
        ∙ (ap (λ (d : ClassId). span (8 * object_start g a.part.object + (leaf_span h l d (leaf_hops a)).start) (leaf_span h l d (leaf_hops a)).length) class
        ∙ ap (λ n. span (8 * object_start g n + (place_in a).start) (place_in a).length) object) in
        subst (AreBitsOf w g (s.leaf a) b.memory.bit) placed (columns.leaves.leaf a t made (ap s.is_closed object ∙ open_there))

    leaf_told : (a : Leaf) (row : LeafRow) → IsRowOf (world_classes w) (places_in w) s.classes k c a row → HoldsLeaf (world_classes w) (places_in w) b (object_start g k) c (dump_leaf s a)
    leaf_told a row of =
        let bits = bits_told a of.type of.object of.made in
        let n : ℕ = (place_in a).length in
        record {
          type = of.type;
          leads = of.leads;
          value = value_told n (s.leaf a) of.type (typed a of.type of.made) (number_from b.memory.bit (8 * object_start g k + (place_in a).start) n) bits.is;
          unset = λ e. bits.unset (unset_told s (s.leaf a) e);
        }

    -- each leaf of the object
    pub leaves_told : (leaf : DumpLeaf) → Contains (map (dump_leaf s) (leaves_of (world_classes w) c (whole_part k c))) leaf → (leaf.at.object ≡ k + 1) × (leaf.at.class ≡ c) × HoldsLeaf (world_classes w) (places_in w) b (object_start g k) c leaf
    leaves_told leaf has =
        let h = world_classes w in
        let l = places_in w in
        let leaves : List Leaf = leaves_of h c (whole_part k c) in
        let a = from_map (dump_leaf s) leaves leaf (has_from_contains (map (dump_leaf s) leaves) leaf has) in
        let row = zip_has (IsRowOf h l s.classes k c) leaves (leaf_rows h l c) a.0 (rows_are h l s.classes k c there) a.1 in
        let object : a.0.part.object ≡ k = row.1.object in
        let class : object_class s a.0.part.object ≡ c = ap (object_class s) object ∙ ap class_or_first there in
        subst (λ (x : DumpLeaf). (x.at.object ≡ k + 1) × (x.at.class ≡ c) × HoldsLeaf h l b (object_start g k) c x) a.2 (ap (λ n. n + 1) object, class, leaf_told a.0 row.0 row.1)
