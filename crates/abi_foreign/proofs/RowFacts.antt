-- The rows with the numbers of a listing, and what they stand for.
use Rattle.std.proofs.Common.{◌≡◌, ◌∙◌, ℕ, zero, suc, ◌+◌, ◌<◌, ◌≤◌, ⊎_elim, Option, Some, None, List, [], ◌∷◌, ◌++◌, length, filter, refl, sym, ap, arith}
use Rattle.std.specs.Prelude.{slice_get}
use Rattle.std.specs.List.{filter_map, find}
use Rattle.std.proofs.lemmas.List.{length-map}
use Rattle.foundation.proofs.Places.{get_within, get_pushed, length_pushed}
use Rattle.cxx_hierarchy.specs.declared.records.ClassId.{ClassId}
use Rattle.cxx_hierarchy.specs.declared.records.Base.{Base}
use Rattle.cxx_hierarchy.specs.declared.records.Member.{Member}
use Rattle.cxx_hierarchy.specs.Classes.{Classes, bases_of, members_of, class_by_number}
use Rattle.cxx_hierarchy.specs.Declarations.{is_plain_base}
use Rattle.cxx_subobject.specs.Subobjects.{shared_base}
use Rattle.cxx_subobject.specs.VirtualBases.{shared_class, virtual_bases}
use Rattle.abi_primary.specs.PrimaryBase.{has_primary}
use Rattle.abi_sound.specs.declared.class_layout.ClassLayout.{ClassLayout}
use Rattle.abi_sound.specs.declared.class_layout.Bits.{Bits}
use Rattle.abi_sound.specs.Sound.{IsFullRow}
use Rattle.abi_sound.specs.Places.{nth_place}
use Rattle.abi_foreign.specs.declared.said.MemberPlace.{MemberPlace}
use Rattle.abi_foreign.specs.declared.said.ClassSaid.{ClassSaid}
use Rattle.abi_foreign.specs.Lines.{most_number}
use Rattle.abi_foreign.specs.Listings.{cut_row, cut_rows}
use Rattle.abi_foreign.specs.invariants.Said.{AreSmallNumbers, IsSmallPlace, AreSmallPlaces, IsSaid}
use Rattle.abi_foreign.specs.invariants.Rows.{said_base_place, direct_base, exact_at, exact_bits, primaries_of, exact_row, exact_row_in, exact_rows}
use Rattle.abi_foreign.proofs.Positions.{mapped_at, get_below}

row_step : (h : Classes) (saids : List ClassSaid) (n : ℕ) (said : ClassSaid) → slice_get saids n ≡ Some said → exact_rows h saids (suc n) ≡ exact_rows h saids n ++ exact_row h saids (primaries_of saids) (class_by_number n) said ∷ []
row_step h saids n said e = ap (λ (one : Option ClassSaid). exact_rows h saids n ++ exact_row_in h saids (class_by_number n) one) e

-- one row more, as it is cut
pub cut_step : (h : Classes) (saids : List ClassSaid) (n : ℕ) (said : ClassSaid) → slice_get saids n ≡ Some said → cut_rows (exact_rows h saids (n + 1)) ≡ cut_rows (exact_rows h saids n) ++ cut_row (exact_row h saids (primaries_of saids) (class_by_number n) said) ∷ []
cut_step h saids n said e =
    let one : n + 1 ≡ suc n = omega arith in
    ap (λ (k : ℕ). cut_rows (exact_rows h saids k)) one ∙ ap cut_rows (row_step h saids n said e) ∙ mapped_push (exact_rows h saids n) (exact_row h saids (primaries_of saids) (class_by_number n) said)
  where
    mapped_push : (rows : List ClassLayout) (row : ClassLayout) → cut_rows (rows ++ row ∷ []) ≡ cut_rows rows ++ cut_row row ∷ []
    mapped_push [] row = refl
    mapped_push (first ∷ rows) row = ap (λ (rest : List ClassLayout). cut_row first ∷ rest) (mapped_push rows row)

pub rows_length : (h : Classes) (saids : List ClassSaid) (n : ℕ) → n ≤ length saids → length (exact_rows h saids n) ≡ n
rows_length h saids zero within = refl
rows_length h saids (suc n) within =
    let there = get_within saids n (omega arith) in
    ap length (row_step h saids n there.0 there.1) ∙ length_pushed (exact_rows h saids n) (exact_row h saids (primaries_of saids) (class_by_number n) there.0)
    ∙ (let before = rows_length h saids n (omega arith) in omega arith)

-- the class of a row
pub record IsRowOf (h : Classes) (saids : List ClassSaid) (i : ℕ) (row : ClassLayout) : Type 0 where
  pub said : ClassSaid
  pub there : slice_get saids i ≡ Some said
  pub is : row ≡ exact_row h saids (primaries_of saids) (class_by_number i) said

row_from : (h : Classes) (saids : List ClassSaid) (n i : ℕ) (row : ClassLayout) → n ≤ length saids → slice_get (exact_rows h saids n) i ≡ Some row → IsRowOf h saids i row
row_from h saids zero i row within e = absurd (cc)
row_from h saids (suc n) i row within e =
    let there = get_within saids n (omega arith) in
    let pushed : slice_get (exact_rows h saids n ++ exact_row h saids (primaries_of saids) (class_by_number n) there.0 ∷ []) i ≡ Some row = ap (λ (rows : List ClassLayout). slice_get rows i) (sym (row_step h saids n there.0 there.1)) ∙ e in
    ⊎_elim
    (λ before. row_from h saids n i row (omega arith) before)
    (λ last.
    let at : i ≡ n = last.0 ∙ rows_length h saids n (omega arith) in
    record { said = there.0; there = ap (slice_get saids) at ∙ there.1; is = last.1 ∙ ap (λ (k : ℕ). exact_row h saids (primaries_of saids) (class_by_number k) there.0) (sym at) })
    (get_pushed (exact_rows h saids n) (exact_row h saids (primaries_of saids) (class_by_number n) there.0) i row pushed)

pub row_at : (h : Classes) (saids : List ClassSaid) (c : ClassId) (said : ClassSaid) → length saids ≡ length h → slice_get saids c.0 ≡ Some said → slice_get (exact_rows h saids (length h)) c.0 ≡ Some (exact_row h saids (primaries_of saids) c said)
row_at h saids c said count e =
    let below : c.0 < length saids = get_below saids c.0 said e in
    let long : length (exact_rows h saids (length h)) ≡ length h = rows_length h saids (length h) (omega arith) in
    let there = get_within (exact_rows h saids (length h)) c.0 (omega arith) in
    let of = row_from h saids (length h) c.0 there.0 (omega arith) there.1 in
    let same : Some of.said ≡ Some said = sym of.there ∙ e in
    let one : of.said ≡ said = cc in
    there.1 ∙ ap (λ (row : ClassLayout). Some row) (of.is ∙ ap (exact_row h saids (primaries_of saids) c) one)

pub cut_at_row : (h : Classes) (saids : List ClassSaid) (c : ClassId) (said : ClassSaid) → length saids ≡ length h → slice_get saids c.0 ≡ Some said → slice_get (cut_rows (exact_rows h saids (length h))) c.0 ≡ Some (cut_row (exact_row h saids (primaries_of saids) c said))
cut_at_row h saids c said count e = mapped_at cut_row (exact_rows h saids (length h)) c.0 (exact_row h saids (primaries_of saids) c said) (row_at h saids c said count e)

-- a row of the rows as they are written
pub written_row : (h : Classes) (saids : List ClassSaid) (i : ℕ) (row : ClassLayout) → length saids ≡ length h → slice_get (exact_rows h saids (length h)) i ≡ Some row → IsRowOf h saids i row
written_row h saids i row count e = row_from h saids (length h) i row (omega arith) e

pub nth_small : (places : List ℕ) (number : Option ℕ) → AreSmallNumbers places → nth_place places number ≤ most_number
nth_small places None small = omega arith
nth_small [] (Some i) small = omega arith
nth_small (place ∷ places) (Some zero) small = small.0
nth_small (place ∷ places) (Some (suc i)) small = nth_small places (Some i) small.1

pub places_length : (members : List (Member ClassId)) (places : List MemberPlace) → AreSmallPlaces members places → length places ≡ length members
places_length [] [] small = refl
places_length [] (at ∷ places) small = absurd small
places_length (member ∷ members) [] small = absurd small
places_length (member ∷ members) (at ∷ places) small = ap (λ (n : ℕ). suc n) (places_length members places small.1)

pub bits_length : (saids : List ClassSaid) (members : List (Member ClassId)) (places : List MemberPlace) → AreSmallPlaces members places → length (exact_bits saids members places) ≡ length members
bits_length saids [] [] small = refl
bits_length saids [] (at ∷ places) small = absurd small
bits_length saids (member ∷ members) [] small = absurd small
bits_length saids (member ∷ members) (at ∷ places) small = ap (λ (n : ℕ). suc n) (bits_length saids members places small.1)

-- what the bits of a member are made of
pub record IsBitsOf (saids : List ClassSaid) (members : List (Member ClassId)) (places : List MemberPlace) (m : ℕ) (bits : Bits) : Type 0 where
  pub member : Member ClassId
  pub at : MemberPlace
  pub listed : slice_get members m ≡ Some member
  pub there : slice_get places m ≡ Some at
  pub small : IsSmallPlace member at
  pub is : bits ≡ exact_at saids member at

pub bits_from : (saids : List ClassSaid) (members : List (Member ClassId)) (places : List MemberPlace) (m : ℕ) (bits : Bits) → AreSmallPlaces members places → slice_get (exact_bits saids members places) m ≡ Some bits → IsBitsOf saids members places m bits
bits_from saids [] places m bits small e = absurd (cc)
bits_from saids (member ∷ members) [] m bits small e = absurd (cc)
bits_from saids (member ∷ members) (at ∷ places) zero bits small e = record { member = member; at = at; listed = refl; there = refl; small = small.0; is = (let same : exact_at saids member at ≡ bits = cc in sym same) }
bits_from saids (member ∷ members) (at ∷ places) (suc m) bits small e =
    let of = bits_from saids members places m bits small.1 e in
    record { member = of.member; at = of.at; listed = of.listed; there = of.there; small = of.small; is = of.is }

-- the exact row of a class tells of all its bases and members
pub exact_full : (h : Classes) (saids : List ClassSaid) (c : ClassId) (number : ℕ) (said : ClassSaid) → IsSaid h c number said → IsFullRow h c (exact_row h saids (primaries_of saids) c said)
exact_full h saids c number said of =
    let list : filter_map shared_class said.list ≡ virtual_bases h c = ap (filter_map shared_class) of.in_preorder in
    record {
      each_base = length-map (filter is_plain_base (bases_of h c)) (λ (b : Base ClassId). said_base_place said (direct_base c b.class));
      virtuals = list;
      each_virtual = length-map (filter_map shared_class said.list) (λ (v : ClassId). said_base_place said (shared_base v)) ∙ ap length list;
      each_holder = length-map (filter_map shared_class said.list) (λ (v : ClassId). find (has_primary (primaries_of saids) v) said.list) ∙ ap length list;
      each_member = length-map said.members (λ (at : MemberPlace). at.place) ∙ places_length (members_of h c) said.members of.members;
      each_bits = bits_length saids (members_of h c) said.members of.members;
    }
