-- What a listing says, by the rows and places that it is written with.
use Rattle.std.proofs.Common.{◌≡◌, ◌∙◌, ℕ, zero, suc, ◌+◌, ◌<◌, ◌≤◌, inl, inr, Option, Some, None, List, [], ◌∷◌, ◌++◌, length, map, refl, sym, ap, subst, arith}
use Rattle.std.specs.Prelude.{slice_get, codes, All}
use Rattle.std.specs.List.{flat_map}
use Rattle.std.specs.Fmt.{decimal}
use Rattle.std.proofs.lemmas.List.{length-map}
use Rattle.std.proofs.lemmas.Option.{get_or_from_slice_get}
use Rattle.foundation.proofs.Places.{get_within, get_mapped}
use Rattle.foundation.proofs.Members.{Has, contains_from_has}
use Rattle.cxx_hierarchy.specs.declared.records.ClassId.{ClassId}
use Rattle.cxx_hierarchy.specs.declared.records.Member.{Member}
use Rattle.cxx_hierarchy.specs.Classes.{Classes, members_of, class_by_number}
use Rattle.cxx_hierarchy.specs.Hierarchies.{IsHierarchy}
use Rattle.cxx_subobject.specs.declared.Subobject.{Subobject}
use Rattle.cxx_subobject.specs.Preorder.{preorder}
use Rattle.cxx_subobject.proofs.TreeLemmas.{preorder_lists}
use Rattle.abi_sound.specs.declared.class_layout.ClassLayout.{ClassLayout}
use Rattle.abi_sound.specs.declared.class_layout.Bits.{Bits}
use Rattle.abi_sound.specs.Places.{place_or_zero, member_places_in, member_bits_in, first_bit_in}
use Rattle.abi_print.specs.Texts.{PlaceOf}
use Rattle.abi_print.specs.LayoutTexts.{declared_class_name, primary_text, class_text, row_text, base_text, fields_text, proper, layout_text}
use Rattle.abi_foreign.specs.declared.said.MemberPlace.{MemberPlace}
use Rattle.abi_foreign.specs.declared.said.ClassSaid.{ClassSaid}
use Rattle.abi_foreign.specs.Lines.{most_number, first_line}
use Rattle.abi_foreign.specs.Listings.{texts_before, IsListing}
use Rattle.abi_foreign.specs.invariants.Said.{base_lines, members_text, AreSmallNumbers, AreSmallPlaces, said_text, said_in, said_before, IsSaid, AreSaid}
use Rattle.abi_foreign.proofs.Positions.{get_below}
use Rattle.abi_foreign.proofs.ListedTexts.{bases_same, all_members, row_split}

-- the places of members, by a row's places and bits
abbrev pub member_places : List ℕ → List Bits → List MemberPlace
member_places [] bits = []
member_places (place ∷ places) [] = []
member_places (place ∷ places) (first ∷ bits) = record { place = place; first = first.first } ∷ member_places places bits

-- what the lines of a class say
abbrev pub said_of : Classes → PlaceOf → ClassId → ClassLayout → ClassSaid
said_of h place c row = record {
  line = first_line h c;
  sizes = record { size = row.size; align = row.align; dsize = row.dsize; nvsize = row.nvsize; nvalign = row.nvalign };
  primary = row.primary;
  list = preorder h c;
  places = map (λ (s : Subobject). place c s) (proper (preorder h c));
  members = member_places row.member_places row.member_bits;
}

-- what the lines of the classes from this number on say
abbrev pub saids_of : Classes → PlaceOf → ℕ → List ClassLayout → List ClassSaid
saids_of h place n [] = []
saids_of h place n (row ∷ rows) = said_of h place (class_by_number n) row ∷ saids_of h place (suc n) rows

pub saids_length : (h : Classes) (place : PlaceOf) (n : ℕ) (rows : List ClassLayout) → length (saids_of h place n rows) ≡ length rows
saids_length h place n [] = refl
saids_length h place n (row ∷ rows) = ap suc (saids_length h place (suc n) rows)

saids_at : (h : Classes) (place : PlaceOf) (n : ℕ) (rows : List ClassLayout) (i : ℕ) (row : ClassLayout) → slice_get rows i ≡ Some row → slice_get (saids_of h place n rows) i ≡ Some (said_of h place (class_by_number (n + i)) row)
saids_at h place n [] i row e = absurd (cc)
saids_at h place n (first ∷ rows) zero row e =
    let same : first ≡ row = cc in
    let here : n ≡ n + zero = omega arith in
    ap (λ (r : ClassLayout). Some (said_of h place (class_by_number n) r)) same ∙ ap (λ (k : ℕ). Some (said_of h place (class_by_number k) row)) here
saids_at h place n (first ∷ rows) (suc i) row e =
    let there : suc n + i ≡ n + suc i = omega arith in
    saids_at h place (suc n) rows i row e ∙ ap (λ (k : ℕ). Some (said_of h place (class_by_number k) row)) there

-- of each class
pub said_row : (h : Classes) (place : PlaceOf) (rows : List ClassLayout) (c : ClassId) (row : ClassLayout) → slice_get rows c.0 ≡ Some row → slice_get (saids_of h place 0 rows) c.0 ≡ Some (said_of h place c row)
said_row h place rows c row e =
    let none : 0 + c.0 ≡ c.0 = omega arith in
    saids_at h place 0 rows c.0 row e ∙ ap (λ (k : ℕ). Some (said_of h place (class_by_number k) row)) none

-- and from what is said to the row
pub row_said : (h : Classes) (place : PlaceOf) (rows : List ClassLayout) (c : ClassId) (said : ClassSaid) → slice_get (saids_of h place 0 rows) c.0 ≡ Some said → (row : ClassLayout) × (slice_get rows c.0 ≡ Some row) × (said ≡ said_of h place c row)
row_said h place rows c said e =
    let low = get_below (saids_of h place 0 rows) c.0 said e in
    let long = saids_length h place 0 rows in
    let row = get_within rows c.0 (omega arith) in
    let there = said_row h place rows c row.0 row.1 in
    let both : Some said ≡ Some (said_of h place c row.0) = sym e ∙ there in
    (row.0, row.1, (cc))

small_mapped : (f : Subobject → ℕ) (list : List Subobject) → ((s : Subobject) → Has list s → f s ≤ most_number) → AreSmallNumbers (map f list)
small_mapped f [] each = tt
small_mapped f (s ∷ list) each = (each s (inl refl), small_mapped f list (λ t has. each t (inr has)))

-- an item of a list of which all are so
pub item_of : {X : Type 0} (P : X → Type 0) (xs : List X) (i : ℕ) (x : X) → All P xs → slice_get xs i ≡ Some x → P x
item_of P xs i x all e = subst P (get_or_from_slice_get xs i x x e) (all i x (get_below xs i x e))

small_members : (members : List (Member ClassId)) (places : List ℕ) (bits : List Bits) → length places ≡ length members → length bits ≡ length members →
    ((i place : ℕ) → slice_get places i ≡ Some place → place ≤ most_number) → ((i : ℕ) (b : Bits) → slice_get bits i ≡ Some b → b.first ≤ most_number) →
    ((i : ℕ) (member : Member ClassId) (b : Bits) → slice_get members i ≡ Some member → slice_get bits i ≡ Some b → member.width ≡ None → b.first ≡ 0) → AreSmallPlaces members (member_places places bits)
small_members [] [] bits long each low small plain = tt
small_members [] (p ∷ places) bits long each low small plain = absurd (omega arith)
small_members (m ∷ members) [] bits long each low small plain = absurd (omega arith)
small_members (m ∷ members) (p ∷ places) [] long each low small plain = absurd (omega arith)
small_members (m ∷ members) (p ∷ places) (b ∷ bits) long each low small plain = (
  (low 0 p refl, small 0 b refl, λ none. plain 0 m b refl refl none),
  small_members members places bits (omega arith) (omega arith) (λ i q e. low (suc i) q e) (λ i q e. small (suc i) q e) (λ i n q e f none. plain (suc i) n q e f none),
)

-- the place and the first bit of a member
pub places_at : (places : List ℕ) (bits : List Bits) (m : ℕ) (at : MemberPlace) → slice_get (member_places places bits) m ≡ Some at → (slice_get places m ≡ Some at.place) × ((b : Bits) × (slice_get bits m ≡ Some b) × (b.first ≡ at.first))
places_at [] bits m at e = absurd (cc)
places_at (p ∷ places) [] m at e = absurd (cc)
places_at (p ∷ places) (b ∷ bits) zero at e =
    let whole : MemberPlace = record { place = p; first = b.first } in
    let same : whole ≡ at = cc in
    (ap (λ (q : MemberPlace). Some q.place) same, (b, refl, ap (λ (q : MemberPlace). q.first) same))
places_at (p ∷ places) (b ∷ bits) (suc m) at e = places_at places bits m at e

module _ (h : Classes) (keeps : IsHierarchy h) (text : List ℕ) (written : List ClassLayout) (place : PlaceOf) (listing : IsListing h text written place)
    (plain : (c : ClassId) (row : ClassLayout) (i : ℕ) (member : Member ClassId) (b : Bits) → slice_get written c.0 ≡ Some row → slice_get (members_of h c) i ≡ Some member → slice_get row.member_bits i ≡ Some b → member.width ≡ None → b.first ≡ 0) where
  row_known : (c : ClassId) (row : ClassLayout) → slice_get written c.0 ≡ Some row → c.0 < length h
  row_known c row e = let low = get_below written c.0 row e in let long = listing.full.one_each in omega arith

  said_small : (c : ClassId) (row : ClassLayout) → slice_get written c.0 ≡ Some row → AreSmallPlaces (members_of h c) (said_of h place c row).members
  said_small c row e =
      let full = listing.full.each c row e in
      let small = listing.small c row e in
      small_members (members_of h c) row.member_places row.member_bits full.each_member full.each_bits
      (λ i p there. item_of (λ (k : ℕ). k ≤ most_number) row.member_places i p small.members there)
      (λ i b there. item_of (λ (bits : Bits). bits.first ≤ most_number) row.member_bits i b small.bits there)
      (λ i member b listed there none. plain c row i member b e listed there none)

  is_said : (c : ClassId) (row : ClassLayout) → slice_get written c.0 ≡ Some row → IsSaid h c (first_line h c) (said_of h place c row)
  is_said c row e = record {
    first = refl;
    sizes = (listing.small c row e).sizes;
    primary = listing.primaries c row e;
    in_preorder = refl;
    lists = preorder_lists h c keeps;
    each = length-map (proper (preorder h c)) (λ (s : Subobject). place c s);
    small = small_mapped (λ (s : Subobject). place c s) (proper (preorder h c)) (λ s has. listing.near c s (row_known c row e) (contains_from_has (proper (preorder h c)) s has));
    members = said_small c row e;
  }

  class_same_text : (c : ClassId) (row : ClassLayout) → slice_get written c.0 ≡ Some row → layout_text h written place c ≡ said_text h c (said_of h place c row)
  class_same_text c row e =
      let said = said_of h place c row in
      let members = all_members h written c said.members (said_small c row e) (λ m at there.
      let of = places_at row.member_places row.member_bits m at there in (
        ap (λ (one : Option ClassLayout). place_or_zero (slice_get (member_places_in one) m)) e ∙ ap place_or_zero of.0,
        ap (λ (one : Option ClassLayout). first_bit_in (slice_get (member_bits_in one) m)) e ∙ ap first_bit_in of.1.1 ∙ of.1.2,
      )) in
      ap (λ (one : Option ClassLayout). row_text h c one ++ flat_map (base_text h place c) (proper (preorder h c)) ++ fields_text h written c (length (members_of h c))) e
      ∙ ap (λ (bases : List ℕ). class_text h c row ++ bases ++ fields_text h written c (length (members_of h c)))
      (bases_same h place c (proper (preorder h c)) said.places (length-map (proper (preorder h c)) (λ (s : Subobject). place c s)) (λ i s n at there.
      let of = get_mapped (λ (t : Subobject). place c t) (proper (preorder h c)) i n there in
      let one : Some of.0 ≡ Some s = sym of.1 ∙ at in
      let same : of.0 ≡ s = cc in
      ap (λ (t : Subobject). place c t) (sym same) ∙ of.2))
      ∙ ap (λ (fields : List ℕ). class_text h c row ++ base_lines h (proper (preorder h c)) said.places ++ fields) members
      ∙ row_split (codes "class ") (declared_class_name h c) (codes " size ") (decimal row.size) (codes " align ") (decimal row.align) (codes " dsize ") (decimal row.dsize) (codes " nvsize ") (decimal row.nvsize) (codes " nvalign ") (decimal row.nvalign)
      (codes "\n") (codes "primary ") (primary_text h row.primary) (codes "\n") (base_lines h (proper (preorder h c)) said.places) (members_text h (members_of h c) said.members)

  texts_same : (n : ℕ) → n ≤ length h → texts_before h written place n ≡ said_before h (saids_of h place 0 written) n
  texts_same zero within = refl
  texts_same (suc n) within =
      let row = get_within written n (let long = listing.full.one_each in omega arith) in
      ap (λ (front : List ℕ). front ++ layout_text h written place (class_by_number n)) (texts_same n (omega arith))
      ∙ ap (λ (one : List ℕ). said_before h (saids_of h place 0 written) n ++ one) (class_same_text (class_by_number n) row.0 row.1)
      ∙ ap (λ (one : Option ClassSaid). said_before h (saids_of h place 0 written) n ++ said_in h (class_by_number n) one) (sym (said_row h place written (class_by_number n) row.0 row.1))

  pub are_said : AreSaid h text (saids_of h place 0 written)
  are_said = record {
    is = listing.is ∙ texts_same (length h) (omega arith);
    each = λ c said e.
        let of = row_said h place written c said e in
        subst (IsSaid h c (first_line h c)) (sym of.2) (is_said c of.0 of.1);
    count = saids_length h place 0 written ∙ listing.full.one_each;
  }
