-- The leaves of an object, as a run tells them, are its rows one by one.
use Rattle.std.proofs.Common.{◌≡◌, ◌∙◌, ℕ, zero, suc, ◌+◌, ◌*◌, ◌<◌, Option, Some, None, List, [], ◌∷◌, ◌++◌, length, append_assoc, append-nil, refl, ap, subst, sym, arith}
use Rattle.std.specs.Prelude.{codes}
use Rattle.std.specs.List.{AllZip, slice_get, flat_map, range_with_len}
use Rattle.std.proofs.lemmas.List.Folds.{flat_map-map}
use Rattle.foundation.proofs.Zips.{zip_flat_map}
use Rattle.cxx_hierarchy.specs.declared.records.ClassId.{ClassId}
use Rattle.cxx_hierarchy.specs.declared.records.Member.{Member}
use Rattle.cxx_hierarchy.specs.declared.records.ValueType.{ValueType}
use Rattle.cxx_hierarchy.specs.declared.records.FieldType.{FieldType}
use Rattle.cxx_hierarchy.specs.declared.records.FieldType.TheVariants.{Value, Object}
use Rattle.cxx_hierarchy.specs.Classes.{Classes, members_of, element_value_type, element_type}
use Rattle.cxx_hierarchy.specs.Declarations.{elements_of}
use Rattle.cxx_subobject.specs.declared.Subobject.{Subobject}
use Rattle.cxx_subobject.specs.declared.locations.Hop.{Hop}
use Rattle.cxx_subobject.specs.declared.locations.Hop.TheVariants.{Inherit, Member as MemberHop}
use Rattle.cxx_subobject.specs.Subobjects.{IsSubobject, class_of, whole_of}
use Rattle.cxx_subobject.specs.Preorder.{preorder}
use Rattle.cxx_subobject.specs.Locations.{IsElement, ObjectPart, Step}
use Rattle.cxx_subobject.proofs.TreeLemmas.{has_preorder}
use Rattle.cxx_subobject.proofs.InsideLemmas.{whole_joined}
use Rattle.path_plan.specs.Places.{element, part}
use Rattle.path_plan.specs.Plans.{upto}
use Rattle.path_plan.specs.Whole.{whole_part}
use Rattle.path_model.specs.Values.{Leaf, inner_part}
use Rattle.path_model.specs.Places.{leaf, leaves_of, leaves_within, member_leaves, own_leaves, typed_leaves}
use Rattle.path_model.specs.TypedStates.{IsLeafMade}
use Rattle.abi_sound.specs.Places.{Places, size_of_value}
use Rattle.abi_sound.specs.Locations.{place_along_hops}
use Rattle.abi_sound.proofs.PlaceLemmas.{place_at_value}
use Rattle.agree_parts.proofs.Made.{leaf_hops}
use Rattle.abi_print.specs.LayoutTexts.{subobject_text}
use Rattle.text_told.specs.Fields.{before_field, element_name_text, field_name_text, member_at, type_behind}
use Rattle.text_bytes.specs.declared.members.PlacedMember.{PlacedMember}
use Rattle.text_bytes.specs.declared.rows.LeafRow.{LeafRow}
use Rattle.text_bytes.specs.LeafRows.{element_name, element_rows, inner_row, leaf_rows, placed_in, placed_member, rows_by_member, rows_by_type, rows_in, rows_within, value_row}
use Rattle.text_bytes.proofs.Zips.{flat_map_twice, zip_map, zip_numbers, zip_ranges, zip_weaker}
use Rattle.text_bytes.proofs.LeafHops.{LeadsOn, leads_more, leads_none}

-- a row is that of a leaf of the object k, which is of class c
pub record IsRowOf (h : Classes) (l : Places) (classes : List ClassId) (k : ℕ) (c : ClassId) (a : Leaf) (row : LeafRow) : Type 0 where
  pub type : ValueType ClassId
  pub object : a.part.object ≡ k
  pub made : IsLeafMade h classes a type
  pub place : place_along_hops h l c (leaf_hops a) ≡ row.place
  pub leads : type_behind h (Some c) (leaf_hops a) ≡ Some type
  pub member : element_type (member_at h (Some row.class) row.number) ≡ Some type
  pub class : row.class ≡ made.class
  pub number : row.number ≡ a.member
  pub first : row.first ≡ l.first row.class row.number
  pub name : field_name_text h (leaf_hops a) ≡ row.name

-- a row of an object that lies at a place of another one, whose leaves have names behind this one
abbrev shifted : ℕ → List ℕ → LeafRow → LeafRow
shifted place name row = record { place = place + row.place; first = row.first; class = row.class; number = row.number; name = name ++ row.name }

row_moved : (place at : ℕ) (name label : List ℕ) (row : LeafRow) → shifted (place + at) (name ++ (label ++ codes ".")) row ≡ shifted place name (inner_row at label row)
row_moved place at name label row =
    let make : ℕ → List ℕ → LeafRow = λ p n. record { place = p; first = row.first; class = row.class; number = row.number; name = n } in
    let places : (place + at) + row.place ≡ place + (at + row.place) = omega arith in
    ap (λ p. make p ((name ++ (label ++ codes ".")) ++ row.name)) places ∙ ap (make (place + (at + row.place))) (append_assoc name (label ++ codes ".") row.name)

row_same : (row : LeafRow) → shifted 0 [] row ≡ row
row_same row =
    let make : ℕ → LeafRow = λ p. record { place = p; first = row.first; class = row.class; number = row.number; name = row.name } in
    let places : 0 + row.place ≡ row.place = omega arith in ap make places

-- the leaves in the complete objects inside the object k, at every depth
module _ (h : Classes) (l : Places) (classes : List ClassId) (k : ℕ) (c : ClassId) (there : slice_get classes k ≡ Some c) where
  -- the leaves of a complete object that lies at a place, by the rows of its class
  abbrev AreRowsAt : (place : ℕ) (name : List ℕ) → List Leaf → List LeafRow → Type 0
  AreRowsAt place name leaves rows = AllZip (λ a row. IsRowOf h l classes k c a (shifted place name row)) leaves rows

  -- the same of each complete object to which steps lead
  abbrev AreRowsOf : (ClassId → ObjectPart → List Leaf) → (ClassId → List LeafRow) → Type 0
  AreRowsOf leaves rows = (d : ClassId) (owner : List Step) (place : ℕ) (name : List ℕ) → LeadsOn h l c owner d place name → AreRowsAt place name (leaves d (part k owner (whole_of d))) (rows d)

  module _ (leaves : ClassId → ObjectPart → List Leaf) (rows : ClassId → List LeafRow) (rule : AreRowsOf leaves rows) (d : ClassId) (owner : List Step) (place : ℕ) (name : List ℕ) (on : LeadsOn h l c owner d place name) (s : Subobject) (valid : IsSubobject h d s) where
    value_is : (b : ClassId) → class_of s ≡ Some b → (m : ℕ) (member : Member ClassId) → slice_get (members_of h b) m ≡ Some member → (t : ValueType ClassId) → member.ty ≡ Value t → (i : ℕ) → i < elements_of member.count →
        IsRowOf h l classes k c (leaf (part k owner s) m i) (shifted place name (value_row (placed_member l (l.place d s) (before_field (subobject_text h s)) b m) member (size_of_value t) i))
    value_is b class m member at t is i lt = record {
      type = t;
      object = refl;
      made = record { class = b; part = record { class = c; made = there; inside = (d, on.owned, valid); of_class = class }; element = element_is };
      place = on.at inside ∙ ap (λ n. place + n) (place_at_value h l d b s m i t class element_is ∙ grouped (l.place d s) (l.member b m) (i * size_of_value t));
      leads = on.type inside t typed;
      member = ap element_type at ∙ ap element_value_type is;
      class = refl;
      number = refl;
      first = refl;
      name = on.named s (MemberHop m i ∷ []) ∙ ap (λ n. name ++ (before_field (subobject_text h s) ++ n)) (append-nil (element_name_text (member_at h (class_of s) m) i) ∙ ap (λ o. element_name_text o i) found);
    }
      where
        inside : List Hop
        inside = Inherit s ∷ MemberHop m i ∷ []

        element_is : IsElement h b m i (Value t)
        element_is = record { member = member; there = at; type_is = is; within = lt }

        found : member_at h (class_of s) m ≡ Some member
        found = ap (λ o. member_at h o m) class ∙ at

        typed : type_behind h (Some d) inside ≡ Some t
        typed = ap element_type found ∙ ap element_value_type is

        grouped : (a b n : ℕ) → a + (b + n) ≡ (a + b) + n
        grouped a b n = omega arith

    by_type : (b : ClassId) → class_of s ≡ Some b → (m : ℕ) (member : Member ClassId) → slice_get (members_of h b) m ≡ Some member → (type : FieldType ClassId) → member.ty ≡ type →
        AreRowsAt place name (typed_leaves leaves (part k owner s) m (upto (elements_of member.count)) type) (rows_by_type l rows (placed_member l (l.place d s) (before_field (subobject_text h s)) b m) member type)
    by_type b class m member at (Value t) is =
        let x : PlacedMember = placed_member l (l.place d s) (before_field (subobject_text h s)) b m in
        zip_numbers (λ a row. IsRowOf h l classes k c a (shifted place name row)) (leaf (part k owner s) m) (value_row x member (size_of_value t)) 0 (elements_of member.count) (λ i lt. value_is b class m member at t is i (omega arith))
    by_type b class m member at (Object e) is =
        let x : PlacedMember = placed_member l (l.place d s) (before_field (subobject_text h s)) b m in
        zip_ranges (λ a row. IsRowOf h l classes k c a (shifted place name row)) (λ i. leaves e (element (part k owner s) m i e)) (element_rows x member (l.size e) (rows e)) 0 (elements_of member.count) (λ i lt.
        let step : Step = record { base = s; member = m; index = i } in
        let start : ℕ = x.place + i * l.size e in
        let label : List ℕ = element_name x member i in
        let more = leads_more h l c owner d b e place name s m i on valid class (record { member = member; there = at; type_is = is; within = omega arith }) in
        zip_map (λ a row. IsRowOf h l classes k c a (shifted place name row)) (inner_row start label) (leaves e (element (part k owner s) m i e)) (rows e)
        (zip_weaker (λ a row. IsRowOf h l classes k c a (shifted (place + start) (name ++ (label ++ codes ".")) row)) (λ a row. IsRowOf h l classes k c a (shifted place name (inner_row start label row))) (leaves e (element (part k owner s) m i e)) (rows e)
        (λ a row of. subst (IsRowOf h l classes k c a) (row_moved place start name label row) of)
        (rule e (step ∷ owner) (place + start) (name ++ (label ++ codes ".")) more)))

    by_member : (b : ClassId) → class_of s ≡ Some b → (m : ℕ) (o : Option (Member ClassId)) → slice_get (members_of h b) m ≡ o →
        AreRowsAt place name (member_leaves leaves (part k owner s) m o) (rows_by_member l rows (placed_member l (l.place d s) (before_field (subobject_text h s)) b m) o)
    by_member b class m None at = tt
    by_member b class m (Some member) at = by_type b class m member at member.ty refl

    by_class : (o : Option ClassId) → class_of s ≡ o → AreRowsAt place name (own_leaves h leaves o (part k owner s)) (flat_map (rows_in h l rows) (placed_in h l (l.place d s) (before_field (subobject_text h s)) o))
    by_class None class = tt
    by_class (Some b) class =
        let n : ℕ = length (members_of h b) in
        let f : ℕ → PlacedMember = placed_member l (l.place d s) (before_field (subobject_text h s)) b in
        subst (AreRowsAt place name (own_leaves h leaves (Some b) (part k owner s))) (sym (flat_map-map (rows_in h l rows) f (range_with_len 0 n)))
        (zip_ranges (λ a row. IsRowOf h l classes k c a (shifted place name row)) (λ m. member_leaves leaves (part k owner s) m (slice_get (members_of h b) m)) (λ m. rows_in h l rows (f m)) 0 n
        (λ m lt. by_member b class m (slice_get (members_of h b) m) refl))

  within_are : (n : ℕ) → AreRowsOf (leaves_within h n) (rows_within h l n)
  within_are zero d owner place name on = tt
  within_are (suc n) d owner place name on =
      let g : Subobject → List PlacedMember = λ s. placed_in h l (l.place d s) (before_field (subobject_text h s)) (class_of s) in
      subst (AreRowsAt place name (leaves_within h (suc n) d (part k owner (whole_of d)))) (sym (flat_map_twice (rows_in h l (rows_within h l n)) g (preorder h d)))
      (zip_flat_map (λ a row. IsRowOf h l classes k c a (shifted place name row)) (λ s. own_leaves h (leaves_within h n) (class_of s) (inner_part (part k owner (whole_of d)) s)) (λ s. flat_map (rows_in h l (rows_within h l n)) (g s)) (preorder h d) (λ s has.
      let valid = has_preorder h d s has in
      let same : part k owner s ≡ inner_part (part k owner (whole_of d)) s = ap (part k owner) (sym (whole_joined h d s valid)) in
      subst (λ (p : ObjectPart). AreRowsAt place name (own_leaves h (leaves_within h n) (class_of s) p) (flat_map (rows_in h l (rows_within h l n)) (g s))) same
      (by_class (leaves_within h n) (rows_within h l n) (within_are n) d owner place name on s valid (class_of s) refl)))

  -- the leaves of the object itself
  pub rows_are : AllZip (IsRowOf h l classes k c) (leaves_of h c (whole_part k c)) (leaf_rows h l c)
  rows_are =
      zip_weaker (λ a row. IsRowOf h l classes k c a (shifted 0 [] row)) (IsRowOf h l classes k c) (leaves_of h c (whole_part k c)) (leaf_rows h l c) (λ a row of. subst (IsRowOf h l classes k c a) (row_same row) of)
      (within_are (c.0 + 1) c [] 0 [] (leads_none h l c))
