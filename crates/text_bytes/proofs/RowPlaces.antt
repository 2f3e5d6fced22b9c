-- The leaves of an object lie in it, with all their bits.
use Rattle.std.proofs.Common.{◌≡◌, ◌∙◌, ℕ, zero, suc, ◌+◌, ◌*◌, ◌<◌, ◌≤◌, Option, Some, None, List, [], ◌∷◌, length, refl, ap, subst, sym, arith}
use Rattle.std.specs.List.{slice_get, range_with_len}
use Rattle.foundation.proofs.Members.{Has, from_flat_map, from_map}
use Rattle.cxx_hierarchy.specs.declared.records.ClassId.{ClassId}
use Rattle.cxx_hierarchy.specs.declared.records.Member.{Member}
use Rattle.cxx_hierarchy.specs.declared.records.ValueType.{ValueType}
use Rattle.cxx_hierarchy.specs.declared.records.FieldType.{FieldType}
use Rattle.cxx_hierarchy.specs.declared.records.FieldType.TheVariants.{Value, Object}
use Rattle.cxx_hierarchy.specs.Classes.{Classes, members_of, width_of_member}
use Rattle.cxx_hierarchy.specs.Hierarchies.{IsHierarchy}
use Rattle.cxx_hierarchy.specs.Declarations.{elements_of}
use Rattle.cxx_subobject.specs.declared.locations.Hop.{Hop}
use Rattle.cxx_subobject.specs.declared.locations.Hop.TheVariants.{Inherit, Member as MemberHop}
use Rattle.cxx_subobject.specs.declared.Subobject.{Subobject}
use Rattle.cxx_subobject.specs.Subobjects.{class_of}
use Rattle.cxx_subobject.specs.Locations.{IsElement, LeadsTo}
use Rattle.abi_sound.specs.declared.class_layout.ClassLayout.{ClassLayout}
use Rattle.abi_sound.specs.Places.{Places, places_of, size_of_value}
use Rattle.abi_sound.specs.Locations.{bits_of_value, last_member, place_along_hops}
use Rattle.abi_sound.specs.Sound.{IsAligned, IsSoundLayout}
use Rattle.text_told.proofs.Leading.{aligned_near, ends_below, ends_inside, width_near}
use Rattle.abi_sound.proofs.LeafSpans.{last_element, last_inner}
use Rattle.text_told.proofs.Objects.{range_has}
use Rattle.text_bytes.specs.declared.members.PlacedMember.{PlacedMember}
use Rattle.text_bytes.specs.declared.rows.LeafRow.{LeafRow}
use Rattle.text_bytes.specs.LeafRows.{element_name, element_rows, inner_row, placed_members, rows_by_member, rows_by_type, rows_in, rows_within, value_row}
use Rattle.text_bytes.specs.invariants.Readable.{AreNear, IsRowNear}
use Rattle.text_bytes.proofs.Placed.{IsPlaced, element, placed, inner_leads, inner_place, value_leads, value_place}

-- hops that lead to a number or a pointer, which is that of a row
record IsLeafPlace (h : Classes) (l : Places) (c : ClassId) (row : LeafRow) : Type 0 where
  hops : List Hop
  type : ValueType ClassId
  leads : LeadsTo h c hops (Value type)
  at : place_along_hops h l c hops ≡ row.place
  last : last_member h (Some c) hops ≡ Some (row.class, row.number)
  first : row.first ≡ l.first row.class row.number

-- the member in which hops end behind an element that is an object
inner_last : (h : Classes) (c d e : ClassId) (s : Subobject) (m i : ℕ) (hops : List Hop) (member : ClassId × ℕ) → class_of s ≡ Some d → IsElement h d m i (Object e) → last_member h (Some e) hops ≡ Some member → last_member h (Some c) (Inherit s ∷ MemberHop m i ∷ hops) ≡ Some member
inner_last h c d e s m i [] member class is last = cc
inner_last h c d e s m i (hop ∷ hops) member class is last = last_inner h (Some c) d e s m i hop hops class is ∙ last

abbrev AreInside : Classes → Places → (ClassId → List LeafRow) → Type 0
AreInside h l inside = (d : ClassId) (row : LeafRow) → Has (inside d) row → IsLeafPlace h l d row

module _ (h : Classes) (l : Places) (inside : ClassId → List LeafRow) (rule : AreInside h l inside) (c : ClassId) (x : PlacedMember) (of : IsPlaced h l c x) where
  by_type : (member : Member ClassId) → slice_get (members_of h x.class) x.number ≡ Some member → (type : FieldType ClassId) → member.ty ≡ type → (row : LeafRow) → Has (rows_by_type l inside x member type) row → IsLeafPlace h l c row
  by_type member there (Value t) is row has =
      let f = from_map (value_row x member (size_of_value t)) (range_with_len 0 (elements_of member.count)) row has in
      let lt : f.0 < 0 + elements_of member.count = range_has 0 (elements_of member.count) f.0 f.1 in
      subst (IsLeafPlace h l c) f.2 (record {
        hops = Inherit of.sub ∷ MemberHop x.number f.0 ∷ [];
        type = t;
        leads = value_leads h l c x member t f.0 of there is (omega arith);
        at = value_place h l c x member t f.0 of there is (omega arith);
        last = last_element h (Some c) x.class of.sub x.number f.0 of.class;
        first = of.first;
      })
  by_type member there (Object d) is row has =
      let f = from_flat_map (element_rows x member (l.size d) (inside d)) (range_with_len 0 (elements_of member.count)) row has in
      let lt : f.0 < 0 + elements_of member.count = range_has 0 (elements_of member.count) f.0 f.1 in
      let q = from_map (inner_row (x.place + f.0 * l.size d) (element_name x member f.0)) (inside d) row f.2 in
      let there_in = rule d q.0 q.1 in
      subst (IsLeafPlace h l c) q.2 (record {
        hops = Inherit of.sub ∷ MemberHop x.number f.0 ∷ there_in.hops;
        type = there_in.type;
        leads = inner_leads h l c x member d f.0 there_in.hops (Value there_in.type) of there is (omega arith) there_in.leads;
        at = inner_place h l c x member d f.0 there_in.hops of there is (omega arith) ∙ ap (λ k. (x.place + f.0 * l.size d) + k) there_in.at;
        last = inner_last h c x.class d of.sub x.number f.0 there_in.hops (q.0.class, q.0.number) of.class (element h x member (Object d) f.0 there is (omega arith)) there_in.last;
        first = there_in.first;
      })

  by_member : (o : Option (Member ClassId)) → slice_get (members_of h x.class) x.number ≡ o → (row : LeafRow) → Has (rows_by_member l inside x o) row → IsLeafPlace h l c row
  by_member None there row has = absurd has
  by_member (Some member) there row has = by_type member there member.ty refl row has

row_there : (h : Classes) (l : Places) (n : ℕ) → AreInside h l (rows_within h l n)
row_there h l zero d row has = absurd has
row_there h l (suc n) d row has =
    let f = from_flat_map (rows_in h l (rows_within h l n)) (placed_members h l d) row has in
    by_member h l (rows_within h l n) (row_there h l n) d f.0 (placed h l d f.0 f.1) (slice_get (members_of h f.0.class) f.0.number) refl row f.2

pub row_inside : (h : Classes) (rows : List ClassLayout) → IsHierarchy h → IsSoundLayout h rows → (n : ℕ) (c : ClassId) (row : LeafRow) → c.0 < length h → Has (rows_within h (places_of h rows) n c) row → row.place < (places_of h rows).size c
row_inside h rows keeps sound n c row known has =
    let r = row_there h (places_of h rows) n c row has in
    subst (λ k. k < (places_of h rows).size c) r.at (ends_inside h rows keeps sound c r.hops (Value r.type) known r.leads)

pub row_below : (h : Classes) (rows : List ClassLayout) → IsHierarchy h → IsSoundLayout h rows → (n : ℕ) (c : ClassId) (row : LeafRow) → c.0 < length h → Has (rows_within h (places_of h rows) n c) row → row.place < 1048576
row_below h rows keeps sound n c row known has =
    let r = row_there h (places_of h rows) n c row has in
    subst (λ k. k < 1048576) r.at (ends_below h rows keeps sound c r.hops (Value r.type) known r.leads)

-- how a row is aligned
row_aligned : (h : Classes) (rows : List ClassLayout) → IsSoundLayout h rows → (c : ClassId) (row : LeafRow) → c.0 < length h → (r : IsLeafPlace h (places_of h rows) c row) →
    IsAligned (width_of_member h row.class row.number) r.type (place_along_hops h (places_of h rows) c r.hops) row.first
row_aligned h rows sound c row known r =
    subst (IsAligned (width_of_member h row.class row.number) r.type (place_along_hops h (places_of h rows) c r.hops)) (sym r.first) ((sound.each c known).aligned r.type r.hops row.class row.number r.leads r.last)

-- its bits begin in the byte at its place, and end in the 8 bytes from there, whatever its type
pub row_starts : (h : Classes) (rows : List ClassLayout) → IsSoundLayout h rows → (n : ℕ) (c : ClassId) (row : LeafRow) → c.0 < length h → Has (rows_within h (places_of h rows) n c) row →
    (row.first < 8) × ((t : ValueType ClassId) → row.first + bits_of_value (width_of_member h row.class row.number) t ≤ 64)
row_starts h rows sound n c row known has =
    let r = row_there h (places_of h rows) n c row has in
    aligned_near (width_of_member h row.class row.number) r.type (place_along_hops h (places_of h rows) c r.hops) row.first (row_aligned h rows sound c row known r)

-- so a memory reads those of a bit-field in one word
pub row_near : (h : Classes) (rows : List ClassLayout) → IsHierarchy h → IsSoundLayout h rows → (n : ℕ) (c : ClassId) (row : LeafRow) → c.0 < length h → Has (rows_within h (places_of h rows) n c) row → IsRowNear h row
row_near h rows keeps sound n c row known has =
    let r = row_there h (places_of h rows) n c row has in
    by_width r.type (place_along_hops h (places_of h rows) c r.hops) (width_of_member h row.class row.number) refl (row_aligned h rows sound c row known r)
  where
    by_width : (type : ValueType ClassId) (place : ℕ) (o : Option ℕ) → width_of_member h row.class row.number ≡ o → IsAligned o type place row.first → AreNear row.first o
    by_width type place None e is = tt
    by_width type place (Some k) e is = (is.0, (width_near h keeps row.class row.number k e).0, is.1)
