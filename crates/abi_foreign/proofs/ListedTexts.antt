-- The text of what is said is that of the layouts with its numbers.
use Rattle.std.proofs.Common.{◌≡◌, ◌∙◌, ℕ, zero, suc, ◌+◌, ◌≤◌, Option, Some, None, List, [], ◌∷◌, ◌++◌, length, map, take, refl, sym, ap, subst, arith, append_assoc}
use Rattle.std.specs.Prelude.{slice_get, codes, position, All}
use Rattle.std.specs.List.{flat_map}
use Rattle.std.specs.Fmt.{decimal}
use Rattle.std.proofs.lemmas.List.{take_all}
use Rattle.std.proofs.lemmas.List.Elements.{All-nil, All-cons}
use Rattle.std.proofs.lemmas.Option.{get_or_from_slice_get}
use Rattle.foundation.proofs.Places.{get_within, take_next}
use Rattle.foundation.proofs.Members.{has_at}
use Rattle.cxx_hierarchy.specs.declared.records.ClassId.{ClassId}
use Rattle.cxx_hierarchy.specs.declared.records.Member.{Member}
use Rattle.cxx_hierarchy.specs.Classes.{Classes, members_of, class_by_number}
use Rattle.cxx_hierarchy.specs.Hierarchies.{IsHierarchy}
use Rattle.cxx_subobject.specs.declared.Subobject.{Subobject}
use Rattle.cxx_subobject.specs.Subobjects.{same_subobject}
use Rattle.cxx_subobject.specs.Preorder.{preorder, ListsSubobjects}
use Rattle.cxx_subobject.proofs.TreeLemmas.{subobject_same, same_itself}
use Rattle.abi_sound.specs.declared.class_layout.ClassLayout.{ClassLayout}
use Rattle.abi_sound.specs.declared.class_layout.Bits.{Bits}
use Rattle.abi_sound.specs.Places.{place_or_zero, nth_place, member_places_in, member_bits_in, first_bit_in, first_bit, member_place}
use Rattle.abi_print.specs.Texts.{PlaceOf}
use Rattle.abi_print.specs.LayoutTexts.{declared_class_name, subobject_text, primary_text, class_text, row_text, base_text, field_text, field_in, fields_text, proper, layout_text}
use Rattle.abi_foreign.specs.declared.said.MemberPlace.{MemberPlace}
use Rattle.abi_foreign.specs.declared.said.ClassSaid.{ClassSaid}
use Rattle.abi_foreign.specs.Lines.{most_number, IsWritable}
use Rattle.abi_foreign.specs.Listings.{texts_before, HasSmallNumbers, IsListing, cut_rows, ListsLayout}
use Rattle.abi_foreign.specs.invariants.Said.{base_lines, members_text, AreSmallPlaces, said_text, said_in, said_before, AreSaid}
use Rattle.abi_foreign.specs.invariants.Rows.{said_base_place, printed_in, said_place, exact_at, exact_bits, primaries_of, exact_row, exact_rows}
use Rattle.abi_foreign.proofs.Positions.{find_some, position_some, mapped_at}
use Rattle.abi_foreign.proofs.ClassReads.{members_more}
use Rattle.abi_foreign.proofs.RowFacts.{row_at, written_row, nth_small, places_length}
use Rattle.abi_foreign.proofs.Stands.{written_full, said_at, stands}

-- no subobject stands twice behind the first
proper_once : (h : Classes) (c : ClassId) (list : List Subobject) → ListsSubobjects h c list → (i j : ℕ) (s : Subobject) → slice_get (proper list) i ≡ Some s → slice_get (proper list) j ≡ Some s → i ≡ j
proper_once h c [] lists i j s e f = absurd (cc)
proper_once h c (whole ∷ list) lists i j s e f = let same = lists.once (suc i) (suc j) s e f in omega arith

-- the place that is said of a subobject is the one at its number
pub printed_at : (h : Classes) (c : ClassId) (said : ClassSaid) (i : ℕ) (s : Subobject) (place : ℕ) → ListsSubobjects h c said.list → slice_get (proper said.list) i ≡ Some s → slice_get said.places i ≡ Some place → said_base_place said s ≡ place
printed_at h c said i s place lists e there =
    let first = find_some (λ (t : Subobject). same_subobject t s) (proper said.list) s (has_at (proper said.list) i s e) (same_itself s) in
    let at = position_some (λ (t : Subobject). same_subobject t s) (proper said.list) first.0 first.1.found in
    let same : first.0 ≡ s = subobject_same first.0 s first.1.passes in
    let number : at.0 ≡ i = proper_once h c said.list lists at.0 i s (at.2 ∙ ap (λ (t : Subobject). Some t) same) e in
    ap (nth_place said.places) at.1 ∙ ap place_or_zero (ap (slice_get said.places) number ∙ there)

regrouped : (p b s e rest : List ℕ) → (p ++ b ++ s ++ e) ++ rest ≡ p ++ (b ++ s ++ e) ++ rest
regrouped p b s e rest = simp append_assoc

pub bases_same : (h : Classes) (place : PlaceOf) (c : ClassId) (list : List Subobject) (places : List ℕ) → length places ≡ length list → ((i : ℕ) (s : Subobject) (n : ℕ) → slice_get list i ≡ Some s → slice_get places i ≡ Some n → place c s ≡ n) →
    flat_map (base_text h place c) list ≡ base_lines h list places
bases_same h place c [] [] same at = refl
bases_same h place c [] (n ∷ places) same at = absurd (omega arith)
bases_same h place c (s ∷ list) [] same at = absurd (omega arith)
bases_same h place c (s ∷ list) (n ∷ places) same at =
    ap (λ (k : ℕ). (decimal k ++ codes " base " ++ subobject_text h s ++ codes "\n") ++ flat_map (base_text h place c) list) (at 0 s n refl refl)
    ∙ ap (λ (rest : List ℕ). (decimal n ++ codes " base " ++ subobject_text h s ++ codes "\n") ++ rest) (bases_same h place c list places (omega arith) (λ i t k e f. at (suc i) t k e f))
    ∙ regrouped (decimal n) (codes " base ") (subobject_text h s) (codes "\n") (base_lines h list places)

-- the first bit that is said of a member
exact_first : (saids : List ClassSaid) (members : List (Member ClassId)) (places : List MemberPlace) (m : ℕ) (at : MemberPlace) → AreSmallPlaces members places → slice_get places m ≡ Some at → first_bit_in (slice_get (exact_bits saids members places) m) ≡ at.first
exact_first saids [] [] m at small e = absurd (cc)
exact_first saids [] (p ∷ places) m at small e = absurd small
exact_first saids (member ∷ members) [] m at small e = absurd small
exact_first saids (member ∷ members) (p ∷ places) zero at small e = let same : p ≡ at = cc in ap (λ (q : MemberPlace). q.first) same
exact_first saids (member ∷ members) (p ∷ places) (suc m) at small e = exact_first saids members places m at small.1 e

small_front : (members : List (Member ClassId)) (places : List MemberPlace) (n : ℕ) → AreSmallPlaces members places → AreSmallPlaces (take n members) (take n places)
small_front members places zero small = tt
small_front [] [] (suc n) small = tt
small_front [] (p ∷ places) (suc n) small = absurd small
small_front (member ∷ members) [] (suc n) small = absurd small
small_front (member ∷ members) (p ∷ places) (suc n) small = (small.0, small_front members places n small.1)

-- the lines of the first members, by what is known of the place of each
pub members_alike : (h : Classes) (rows : List ClassLayout) (c : ClassId) (ats : List MemberPlace) → AreSmallPlaces (members_of h c) ats →
    ((m : ℕ) (at : MemberPlace) → slice_get ats m ≡ Some at → (member_place rows c m ≡ at.place) × (first_bit rows c m ≡ at.first)) →
    (n : ℕ) → n ≤ length (members_of h c) → fields_text h rows c n ≡ members_text h (take n (members_of h c)) (take n ats)
members_alike h rows c ats small known zero within = refl
members_alike h rows c ats small known (suc n) within =
    let count = places_length (members_of h c) ats small in
    let member = get_within (members_of h c) n (omega arith) in
    let at = get_within ats n (omega arith) in
    let both = known n at.0 at.1 in
    let step : n + 1 ≡ suc n = omega arith in
    let front : take (suc n) (members_of h c) ≡ take n (members_of h c) ++ member.0 ∷ [] =
    ap (λ (k : ℕ). take k (members_of h c)) (sym step) ∙ take_next (members_of h c) n member.0 (omega arith) (sym (get_or_from_slice_get (members_of h c) n member.0 member.0 member.1)) in
    let places : take (suc n) ats ≡ take n ats ++ at.0 ∷ [] =
    ap (λ (k : ℕ). take k ats) (sym step) ∙ take_next ats n at.0 (omega arith) (sym (get_or_from_slice_get ats n at.0 at.0 at.1)) in
    ap (λ (text : List ℕ). text ++ field_in h (member_place rows c n) (first_bit rows c n) (slice_get (members_of h c) n)) (members_alike h rows c ats small known n (omega arith))
    ∙ ap (λ (one : Option (Member ClassId)). members_text h (take n (members_of h c)) (take n ats) ++ field_in h (member_place rows c n) (first_bit rows c n) one) member.1
    ∙ ap (λ (k : ℕ). members_text h (take n (members_of h c)) (take n ats) ++ field_text h k (first_bit rows c n) member.0) both.0
    ∙ ap (λ (k : ℕ). members_text h (take n (members_of h c)) (take n ats) ++ field_text h at.0.place k member.0) both.1
    ∙ sym (members_more h (take n (members_of h c)) member.0 (take n ats) at.0 (small_front (members_of h c) ats n small))
    ∙ ap (λ (list : List (Member ClassId)). members_text h list (take n ats ++ at.0 ∷ [])) (sym front)
    ∙ ap (λ (list : List MemberPlace). members_text h (take (suc n) (members_of h c)) list) (sym places)

-- those of all members
pub all_members : (h : Classes) (rows : List ClassLayout) (c : ClassId) (ats : List MemberPlace) → AreSmallPlaces (members_of h c) ats →
    ((m : ℕ) (at : MemberPlace) → slice_get ats m ≡ Some at → (member_place rows c m ≡ at.place) × (first_bit rows c m ≡ at.first)) →
    fields_text h rows c (length (members_of h c)) ≡ members_text h (members_of h c) ats
all_members h rows c ats small known =
    let count = places_length (members_of h c) ats small in
    members_alike h rows c ats small known (length (members_of h c)) (omega arith)
    ∙ ap (λ (list : List (Member ClassId)). members_text h list (take (length (members_of h c)) ats)) (take_all (length (members_of h c)) (members_of h c) (omega arith))
    ∙ ap (λ (list : List MemberPlace). members_text h (members_of h c) list) (take_all (length (members_of h c)) ats (omega arith))

-- the places of members in the row of a class that its lines say
exact_known : (h : Classes) (saids : List ClassSaid) (rows : List ClassLayout) (c : ClassId) (said : ClassSaid) → slice_get rows c.0 ≡ Some (exact_row h saids (primaries_of saids) c said) → AreSmallPlaces (members_of h c) said.members →
    (m : ℕ) (at : MemberPlace) → slice_get said.members m ≡ Some at → (member_place rows c m ≡ at.place) × (first_bit rows c m ≡ at.first)
exact_known h saids rows c said row small m at e = (
  ap (λ (one : Option ClassLayout). place_or_zero (slice_get (member_places_in one) m)) row ∙ ap place_or_zero (mapped_at (λ (p : MemberPlace). p.place) said.members m at e),
  ap (λ (one : Option ClassLayout). first_bit_in (slice_get (member_bits_in one) m)) row ∙ exact_first saids (members_of h c) said.members m at small e,
)

pub row_split : (c1 n c2 s c3 a c4 d c5 v c6 w c9 c10 p c8 b f : List ℕ) →
    (c1 ++ n ++ c2 ++ s ++ c3 ++ a ++ c4 ++ d ++ c5 ++ v ++ c6 ++ w ++ (c9 ++ c10) ++ p ++ c8) ++ b ++ f
    ≡ (c1 ++ n ++ c2) ++ (s ++ (c3 ++ (a ++ (c4 ++ (d ++ (c5 ++ (v ++ (c6 ++ (w ++ (c9 ++ ((c10 ++ p ++ c8) ++ (b ++ f))))))))))))
row_split c1 n c2 s c3 a c4 d c5 v c6 w c9 c10 p c8 b f = simp append_assoc

module _ (h : Classes) (keeps : IsHierarchy h) (text : List ℕ) (saids : List ClassSaid) (all : AreSaid h text saids) where
  class_same_text : (c : ClassId) (said : ClassSaid) → slice_get saids c.0 ≡ Some said → layout_text h (exact_rows h saids (length h)) (said_place saids) c ≡ said_text h c said
  class_same_text c said e =
      let of = all.each c said e in
      let row = row_at h saids c said all.count e in
      let members = all_members h (exact_rows h saids (length h)) c said.members of.members (exact_known h saids (exact_rows h saids (length h)) c said row of.members) in
      ap (λ (one : Option ClassLayout). row_text h c one ++ flat_map (base_text h (said_place saids) c) (proper (preorder h c)) ++ fields_text h (exact_rows h saids (length h)) c (length (members_of h c))) row
      ∙ ap (λ (list : List Subobject). class_text h c (exact_row h saids (primaries_of saids) c said) ++ flat_map (base_text h (said_place saids) c) (proper list) ++ fields_text h (exact_rows h saids (length h)) c (length (members_of h c))) (sym of.in_preorder)
      ∙ ap (λ (bases : List ℕ). class_text h c (exact_row h saids (primaries_of saids) c said) ++ bases ++ fields_text h (exact_rows h saids (length h)) c (length (members_of h c)))
      (bases_same h (said_place saids) c (proper said.list) said.places of.each (λ i s n at there. ap (λ (one : Option ClassSaid). printed_in one s) e ∙ printed_at h c said i s n of.lists at there))
      ∙ ap (λ (fields : List ℕ). class_text h c (exact_row h saids (primaries_of saids) c said) ++ base_lines h (proper said.list) said.places ++ fields)
      members
      ∙ row_split (codes "class ") (declared_class_name h c) (codes " size ") (decimal said.sizes.size) (codes " align ") (decimal said.sizes.align) (codes " dsize ") (decimal said.sizes.dsize) (codes " nvsize ") (decimal said.sizes.nvsize) (codes " nvalign ") (decimal said.sizes.nvalign)
      (codes "\n") (codes "primary ") (primary_text h said.primary) (codes "\n") (base_lines h (proper said.list) said.places) (members_text h (members_of h c) said.members)

  texts_same : (n : ℕ) → n ≤ length h → said_before h saids n ≡ texts_before h (exact_rows h saids (length h)) (said_place saids) n
  texts_same zero within = refl
  texts_same (suc n) within =
      let said = said_at h keeps text saids all (class_by_number n) (omega arith) in
      ap (λ (front : List ℕ). front ++ said_in h (class_by_number n) (slice_get saids n)) (texts_same n (omega arith))
      ∙ ap (λ (one : Option ClassSaid). texts_before h (exact_rows h saids (length h)) (said_place saids) n ++ said_in h (class_by_number n) one) said.1
      ∙ ap (λ (one : List ℕ). texts_before h (exact_rows h saids (length h)) (said_place saids) n ++ one) (sym (class_same_text (class_by_number n) said.0 said.1))

  all_places : (places : List MemberPlace) (members : List (Member ClassId)) → AreSmallPlaces members places → All (λ (place : ℕ). place ≤ most_number) (map (λ (at : MemberPlace). at.place) places)
  all_places [] members small = All-nil (λ (place : ℕ). place ≤ most_number)
  all_places (at ∷ places) [] small = absurd small
  all_places (at ∷ places) (member ∷ members) small = All-cons (λ (place : ℕ). place ≤ most_number) at.place (map (λ (p : MemberPlace). p.place) places) small.0.0 (all_places places members small.1)

  all_bits : (members : List (Member ClassId)) (places : List MemberPlace) → AreSmallPlaces members places → All (λ (bits : Bits). bits.first ≤ most_number) (exact_bits saids members places)
  all_bits [] places small = All-nil (λ (bits : Bits). bits.first ≤ most_number)
  all_bits (member ∷ members) [] small = All-nil (λ (bits : Bits). bits.first ≤ most_number)
  all_bits (member ∷ members) (at ∷ places) small = All-cons (λ (bits : Bits). bits.first ≤ most_number) (exact_at saids member at) (exact_bits saids members places) small.0.1 (all_bits members places small.1)

  pub said_near : (c : ClassId) (s : Subobject) → said_place saids c s ≤ most_number
  said_near c s = by_said (slice_get saids c.0) refl
    where
      by_said : (one : Option ClassSaid) → slice_get saids c.0 ≡ one → printed_in one s ≤ most_number
      by_said None e = omega arith
      by_said (Some said) e = nth_small said.places (position (λ (t : Subobject). same_subobject t s) (proper said.list)) (all.each c said e).small

  pub listing : IsListing h text (exact_rows h saids (length h)) (said_place saids)
  listing = record {
    is = all.is ∙ texts_same (length h) (omega arith);
    full = written_full h keeps text saids all;
    small = λ c row e.
        let of = written_row h saids c.0 row all.count e in
        let said = all.each c of.said of.there in
        subst HasSmallNumbers (sym of.is) (record { sizes = said.sizes; members = all_places of.said.members (members_of h c) said.members; bits = all_bits (members_of h c) of.said.members said.members });
    near = λ c s known has. said_near c s;
    primaries = λ c row e.
        let of = written_row h saids c.0 row all.count e in
        subst (λ (r : ClassLayout). IsWritable h r.primary) (sym of.is) (all.each c of.said of.there).primary;
  }

  pub listed : ListsLayout h text (cut_rows (exact_rows h saids (length h))) (said_place saids)
  listed = record { written = exact_rows h saids (length h); listing = listing; is = refl; stands = stands h keeps text saids all }
