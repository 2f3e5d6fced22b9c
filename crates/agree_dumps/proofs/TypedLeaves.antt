-- What a typed state tells in a dump fits: numbers are of their types or widths, and pointers name places of its few objects.
use Rattle.std.proofs.Common.{◌≡◌, ◌∙◌, ℕ, ◌+◌, ◌<◌, ◌≤◌, arith, Option, Some, None, List, [], ◌∷◌, map, length, ap, subst, sym}
use Rattle.std.specs.List.{slice_get}
use Rattle.std.proofs.lemmas.Option.{slice_get_within}
use Rattle.foundation.proofs.Members.{Has, contains_from_has, from_map, has_from_contains, has_map}
use Rattle.foundation.proofs.Zips.{zip_has}
use Rattle.cxx_hierarchy.specs.declared.records.ClassId.{ClassId}
use Rattle.cxx_hierarchy.specs.declared.records.ValueType.{ValueType}
use Rattle.cxx_hierarchy.specs.declared.records.ValueType.TheVariants.{Number as NumberType, Pointer as PointerType}
use Rattle.cxx_hierarchy.specs.Classes.{Classes, width_of_member}
use Rattle.cxx_hierarchy.specs.Hierarchies.{IsHierarchy}
use Rattle.cxx_subobject.specs.Locations.{ObjectPart, hops_of}
use Rattle.cxx_program.specs.Typed.{width_within}
use Rattle.path_plan.specs.Whole.{whole_part}
use Rattle.path_model.specs.Values.{Leaf, Objects, Value, Unset, Number, Null, Pointer}
use Rattle.path_model.specs.Outs.{dump_leaf, location_of, object_class, shown}
use Rattle.path_model.specs.Places.{leaves_of}
use Rattle.path_model.specs.TypedStates.{IsInBitField, IsLeafMade, IsPartMade, IsValue, width_of_leaf}
use Rattle.abi_sound.specs.declared.class_layout.ClassLayout.{ClassLayout}
use Rattle.abi_sound.specs.Places.{Places, places_of}
use Rattle.abi_sound.specs.Sound.{IsSoundLayout}
use Rattle.text_told.specs.Fields.{NamesPart, location_place}
use Rattle.text_told.specs.Dumps.{AreDumpedLeaves, NamesValue}
use Rattle.text_told.proofs.Leading.{object_below}
use Rattle.text_bytes.specs.declared.rows.LeafRow.{LeafRow}
use Rattle.text_bytes.specs.LeafRows.{leaf_rows}
use Rattle.text_bytes.proofs.RowsOfLeaves.{IsRowOf, rows_are}
use Rattle.abi_inspect.specs.Values.{IsHeapPlace, IsValueOf, most_dumped_number}
use Rattle.agree_dumps.specs.SeenDumps.{ValuesFit, ValueFits, seen_value}
use Rattle.agree_dumps.proofs.Told.{fits_of}

module _ (h : Classes) (rows : List ClassLayout) (sound : IsSoundLayout h rows) (s : Objects) (few : length s.classes ≤ most_dumped_number) where
  place_fits : (p : ObjectPart) (c : ClassId) → IsPartMade h s.classes p c → NamesPart h (location_of s p) → IsHeapPlace (p.object + 1) (location_place h (places_of h rows) (location_of s p))
  place_fits p c made names =
      let lt = slice_get_within s.classes p.object made.class made.made in
      let near : location_place h (places_of h rows) (location_of s p) < 1048576 = object_below h rows sound (object_class s p.object) names.0 (hops_of p.owner p.at) names.1.known names.1.leads in
      record { low = omega arith; high = omega arith; near = omega arith }

  value_fits : (width : Option ℕ) (type : ValueType ClassId) (v : Value) → IsValue h s.classes v type → IsInBitField width v type → NamesValue h (shown s v) → IsValueOf width type (seen_value h (places_of h rows) (shown s v))
  value_fits width (NumberType t) Unset is held names = tt
  value_fits width (PointerType c) Unset is held names = tt
  value_fits None (NumberType t) (Number z) is held names = is
  value_fits (Some n) (NumberType t) (Number z) is held names = held
  value_fits width (PointerType c) (Number z) is held names = absurd is
  value_fits width (NumberType t) Null is held names = absurd is
  value_fits width (PointerType c) Null is held names = tt
  value_fits width (NumberType t) (Pointer p) is held names = absurd is
  value_fits width (PointerType c) (Pointer p) is held names = place_fits p c is names

  module _ (keeps : IsHierarchy h) (values : (a : Leaf) (t : ValueType ClassId) → IsLeafMade h s.classes a t → IsValue h s.classes (s.leaf a) t) (held : (a : Leaf) (t : ValueType ClassId) → IsLeafMade h s.classes a t → IsInBitField (width_of_leaf h a) (s.leaf a) t)
      (k : ℕ) (c : ClassId) (there : slice_get s.classes k ≡ Some c) (told : AreDumpedLeaves h c (map (dump_leaf s) (leaves_of h c (whole_part k c)))) where
    width_is : (a : Leaf) (row : LeafRow) (of : IsRowOf h (places_of h rows) s.classes k c a row) → width_of_leaf h a ≡ width_of_member h row.class row.number
    width_is a row of =
        ap (λ (o : Option ClassId). width_within h o a.member) of.made.part.of_class
        ∙ (ap (λ (d : ClassId). width_of_member h d a.member) (sym of.class) ∙ ap (width_of_member h row.class) (sym of.number))

    leaf_fits : (a : Leaf) (row : LeafRow) → IsRowOf h (places_of h rows) s.classes k c a row → Has (leaves_of h c (whole_part k c)) a → ValueFits h (places_of h rows) (dump_leaf s a)
    leaf_fits a row of has =
        let leaves : List Leaf = leaves_of h c (whole_part k c) in
        fits_of h keeps (places_of h rows) s k c there a row of
        (value_fits (width_of_member h row.class row.number) of.type (s.leaf a) (values a of.type of.made)
        (subst (λ (width : Option ℕ). IsInBitField width (s.leaf a) of.type) (width_is a row of) (held a of.type of.made))
        (told.each (dump_leaf s a) (contains_from_has (map (dump_leaf s) leaves) (dump_leaf s a) (has_map (dump_leaf s) leaves a has))).value)

    pub told_leaves_fit : ValuesFit h (places_of h rows) (map (dump_leaf s) (leaves_of h c (whole_part k c)))
    told_leaves_fit leaf has =
        let l : Places = places_of h rows in
        let leaves : List Leaf = leaves_of h c (whole_part k c) in
        let a = from_map (dump_leaf s) leaves leaf (has_from_contains (map (dump_leaf s) leaves) leaf has) in
        let row = zip_has (IsRowOf h l s.classes k c) leaves (leaf_rows h l c) a.0 (rows_are h l s.classes k c there) a.1 in
        subst (ValueFits h l) a.2 (leaf_fits a.0 row.0 row.1 a.1)
