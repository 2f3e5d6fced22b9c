-- A dump that is read from memory is that of the object's leaves.
use Rattle.std.proofs.Common.{◌≡◌, ◌∙◌, ℕ, ◌+◌, false, Some, List, ◌++◌, map, ap, sym}
use Rattle.std.specs.Prelude.{codes}
use Rattle.std.specs.List.{slice_get}
use Rattle.std.specs.Fmt.{decimal}
use Rattle.std.proofs.lemmas.Simd.{map-map}
use Rattle.cxx_hierarchy.specs.declared.records.ClassId.{ClassId}
use Rattle.path_plan.specs.Phases.{Complete}
use Rattle.path_plan.specs.Views.{Settled}
use Rattle.path_plan.specs.Whole.{whole_part}
use Rattle.path_model.specs.declared.outs.DumpLeaf.{DumpLeaf}
use Rattle.path_model.specs.Values.{Leaf, Objects}
use Rattle.path_model.specs.Outs.{dump_leaf}
use Rattle.path_model.specs.Places.{leaves_of}
use Rattle.byte_memory.specs.Store.{Store}
use Rattle.byte_shadow.specs.Shadows.{Notes}
use Rattle.byte_machine.specs.declared.heap.Opened.{Opened}
use Rattle.agree_parts.specs.Heaps.{object_start}
use Rattle.agree_parts.specs.Placed.{LieIn}
use Rattle.agree_relation.specs.Worlds.{World, IsProgramWorld, world_classes, places_in}
use Rattle.agree_relation.specs.Words.{heap_of}
use Rattle.agree_relation.specs.Columns.{ColumnsStand}
use Rattle.agree_relation.proofs.Listed.{object_found}
use Rattle.abi_print.specs.LayoutTexts.{declared_class_name}
use Rattle.text_told.specs.declared.items.Item.{Item}
use Rattle.text_told.specs.Pointers.{pointers_of}
use Rattle.text_told.specs.Dumps.{by_place, dump_text, dump_items, leaf_item, lines_from, pointer_item}
use Rattle.text_bytes.specs.LeafRows.{leaf_rows}
use Rattle.text_bytes.specs.RawDumps.{dump_by, raw_dump, raw_items, row_item}
use Rattle.text_bytes.specs.Reads.{HasTypedLeaves, DumpsObject}
use Rattle.text_bytes.proofs.LeafReads.{item_read}
use Rattle.text_bytes.proofs.RowsOfLeaves.{IsRowOf, rows_are}
use Rattle.text_bytes.proofs.PointerReads.{pointers_read}
use Rattle.text_bytes.proofs.Zips.{zip_same}

module _ (w : World) (world : IsProgramWorld w) (s : Objects) (memory : Store) (opened : List Opened) (heap : ℕ) (notes : Notes) (columns : ColumnsStand w s memory opened heap notes) (typed : HasTypedLeaves w s) where
  -- what lies in an open object
  items_read : (k : ℕ) (c : ClassId) → slice_get s.classes k ≡ Some c → s.is_closed k ≡ false → s.phases.phase (whole_part k c) ≡ Complete → Settled (world_classes w) k s.phases →
      raw_items (world_classes w) (places_in w) w.image memory opened (object_start (heap_of s.classes memory.regions) k) c ≡ dump_items (world_classes w) (places_in w) c (map (dump_leaf s) (leaves_of (world_classes w) c (whole_part k c)))
  items_read k c class is_open complete settled =
      let h = world_classes w in
      let l = places_in w in
      let told : List Leaf = leaves_of h c (whole_part k c) in
      let start : ℕ = object_start (heap_of s.classes memory.regions) k in
      let same : map (λ a. leaf_item h l (dump_leaf s a)) told ≡ map (row_item h memory opened start) (leaf_rows h l c) =
      zip_same (IsRowOf h l s.classes k c) (λ a. leaf_item h l (dump_leaf s a)) (row_item h memory opened start) told (leaf_rows h l c) (λ a row of. item_read w world s memory opened heap columns.objects columns.leaves typed k c class is_open a row of) (rows_are h l s.classes k c class) in
      ap (λ (items : List Item). items ++ map (row_item h memory opened start) (leaf_rows h l c)) (pointers_read w world s memory opened heap notes columns k c class is_open complete settled)
      ∙ ap (λ (items : List Item). map (pointer_item h) (pointers_of h l c) ++ items) (sym (map-map (leaf_item h l) (dump_leaf s) told ∙ same))

  -- the dump of the object that has an address
  pub dump_read : (number : ℕ) (c : ClassId) (told : List DumpLeaf) (a : ℕ) → (dump : DumpsObject w s number c told) → LieIn (places_in w) (heap_of s.classes memory.regions) dump.object a 1 →
      raw_dump (world_classes w) (places_in w) w.image memory opened a ≡ dump_text (world_classes w) (places_in w) number c told
  dump_read number c told a dump inside =
      let h = world_classes w in
      let l = places_in w in
      let k = dump.object in
      let head : ℕ → List ℕ = λ n. codes "dump #" ++ decimal n ++ codes " " ++ declared_class_name h c ++ codes " " ++ decimal (l.size c) in
      let lines : List Item → List ℕ = λ items. lines_from (l.size c) 0 (by_place (l.size c) items) in
      ap (dump_by h l w.image memory opened) (object_found w s memory.regions opened heap k a c columns.objects inside dump.class)
      ∙ (ap (λ items. head (k + 1) ++ lines items) (items_read k c dump.class dump.is_open dump.complete dump.settled)
      ∙ (ap (λ (list : List DumpLeaf). head (k + 1) ++ lines (dump_items h l c list)) (sym dump.leaves_are)
      ∙ ap (λ n. head n ++ lines (dump_items h l c told)) (sym dump.number_is)))
