-- The rows that a listing stands for are those of what it says.
use Rattle.std.proofs.Common.{◌≡◌, ◌∙◌, ℕ, zero, suc, ◌+◌, ◌<◌, ◌≤◌, ⊎_elim, Bool, true, false, Option, Some, None, List, [], ◌∷◌, length, map, filter, get_or, refl, sym, ap, arith}
use Rattle.std.specs.Prelude.{slice_get, min, nat_eq, not, position, Contains}
use Rattle.std.specs.List.{find}
use Rattle.std.proofs.lemmas.List.{length-map}
use Rattle.std.proofs.lemmas.Option.{get_or_from_slice_get, slice_get_past}
use Rattle.foundation.proofs.Places.{get_within, get_none, get_mapped}
use Rattle.foundation.proofs.Members.{Has, EachOnce, has_at, index_of, has_from_contains, contains_from_has, once_by_place}
use Rattle.foundation.proofs.Chosen.{has_filter, once_filter}
use Rattle.cxx_hierarchy.specs.declared.records.ClassId.{ClassId}
use Rattle.cxx_hierarchy.specs.declared.records.Base.{Base}
use Rattle.cxx_hierarchy.specs.declared.records.Member.{Member}
use Rattle.cxx_hierarchy.specs.declared.records.FieldType.{FieldType}
use Rattle.cxx_hierarchy.specs.declared.records.FieldType.TheVariants.{Value, Object}
use Rattle.cxx_hierarchy.specs.Classes.{Classes, bases_of, members_of, class_by_number}
use Rattle.cxx_hierarchy.specs.Declarations.{is_plain_base, elements_of}
use Rattle.cxx_hierarchy.specs.Hierarchies.{IsHierarchy}
use Rattle.cxx_hierarchy.specs.VirtualBases.{IsDirectBase, HasVirtualBase}
use Rattle.cxx_subobject.specs.declared.Root.TheVariants.{Whole, Shared}
use Rattle.cxx_subobject.specs.declared.Subobject.{Subobject}
use Rattle.cxx_subobject.specs.Subobjects.{whole, shared, shared_base, whole_of, class_of}
use Rattle.cxx_subobject.specs.Preorder.{tree, firsts, preorder}
use Rattle.cxx_subobject.specs.VirtualBases.{virtual_bases}
use Rattle.cxx_subobject.proofs.TreeLemmas.{preorder_has, preorder_lists}
use Rattle.cxx_subobject.proofs.VirtualBaseLemmas.{virtual_has, virtual_places as virtual_apart}
use Rattle.abi_primary.specs.declared.Primary.{Primary}
use Rattle.abi_primary.specs.declared.Primary.TheVariants.{None as NoPrimary}
use Rattle.abi_primary.specs.PrimaryBase.{has_primary, has_primary_in, is_virtual_primary}
use Rattle.abi_sound.specs.declared.class_layout.ClassLayout.{ClassLayout}
use Rattle.abi_sound.specs.declared.class_layout.Bits.{Bits}
use Rattle.abi_sound.specs.Sound.{is_primary_of}
use Rattle.abi_sound.specs.Places.{places_of, base_places_in as places_in_row, nth_place, nth_holder, place_or_zero, size_in_row, member_bits_in, primary_in, direct_base_place, virtual_place, virtual_place_in, holder_in}
use Rattle.abi_sound.specs.Locations.{size_of_type}
use Rattle.abi_print.specs.LayoutTexts.{proper}
use Rattle.abi_print.specs.Texts.{PlaceOf}
use Rattle.abi_foreign.specs.declared.said.MemberPlace.{MemberPlace}
use Rattle.abi_foreign.specs.declared.said.ClassSaid.{ClassSaid}
use Rattle.abi_foreign.specs.Listings.{cut_bits, cut_row, cut_rows, IsListing, RowsHavePlaces}
use Rattle.abi_foreign.specs.invariants.Said.{AreSaid}
use Rattle.abi_foreign.specs.invariants.Rows.{said_base_place, printed_in, said_place, direct_base, size_said, said_size, said_width, exact_bits, primaries_of, exact_row, exact_rows}
use Rattle.abi_foreign.proofs.Positions.{find_some, position_some, mapped_at}
use Rattle.abi_foreign.proofs.RowFacts.{rows_length, cut_at_row}
use Rattle.abi_foreign.proofs.Stands.{nat_same, nat_itself, class_same, find_alike, none_past, width_same}
use Rattle.abi_foreign.proofs.ListedTexts.{printed_at}
use Rattle.abi_foreign.proofs.Once.{six_same, items_same}
use Rattle.abi_foreign.proofs.Written.{member_places, said_of, saids_of, saids_length, said_row, are_said}

min_zero : (n : ℕ) → min n 255 ≡ 0 → n ≡ 0
min_zero n e = grind arith

-- the number of the one element that passes
position_one : {X : Type 0} (p : X → Bool) (xs : List X) (i : ℕ) (x : X) → slice_get xs i ≡ Some x → p x ≡ true → ((j : ℕ) (y : X) → slice_get xs j ≡ Some y → p y ≡ true → j ≡ i) → position p xs ≡ Some i
position_one p xs i x e passes once =
    let first = find_some p xs x (has_at xs i x e) passes in
    let at = position_some p xs first.0 first.1.found in
    at.1 ∙ ap (λ (n : ℕ). Some n) (once at.0 first.0 at.2 first.1.passes)

-- a list is that of a function of each item of another
mapped_list : {X Y : Type 0} (f : X → Y) (xs : List X) (ys : List Y) → length ys ≡ length xs → ((i : ℕ) (x : X) (y : Y) → slice_get xs i ≡ Some x → slice_get ys i ≡ Some y → y ≡ f x) → ys ≡ map f xs
mapped_list {X} {Y} f xs ys long each = items_same ys (map f xs) (long ∙ sym (length-map xs f)) (λ i y z e g.
    let of = get_mapped f xs i z g in
    each i of.0 y of.1 e ∙ of.2)

-- a proper subobject is no whole
proper_has : (list : List Subobject) (outer s : Subobject) → slice_get list 0 ≡ Some outer → Has list s → (outer ≡ s → ⊥) → Has (proper list) s
proper_has [] outer s e has differs = absurd has
proper_has (first ∷ list) outer s e has differs = ⊎_elim (λ same. let one : first ≡ outer = cc in absurd (differs (sym one ∙ same))) (λ more. more) has

whole_first : (h : Classes) (c : ClassId) → slice_get (preorder h c) 0 ≡ Some (whole_of c)
whole_first h c = by_steps (c.0 + 1) (omega arith)
  where
    by_steps : (n : ℕ) → 1 ≤ n → slice_get (firsts (tree h n c (whole_of c))) 0 ≡ Some (whole_of c)
    by_steps zero some = absurd (omega arith)
    by_steps (suc n) some = refl

each_once : {X : Type 0} (xs : List X) → ((i j : ℕ) (x : X) → slice_get xs i ≡ Some x → slice_get xs j ≡ Some x → i ≡ j) → EachOnce xs
each_once [] once = tt
each_once (x ∷ xs) once = (
  λ has.
      let at = index_of xs x has in
      let bad = once 0 (suc at.0) x refl at.1 in absurd (omega arith),
  each_once xs (λ i j y a b. let more = once (suc i) (suc j) y a b in omega arith),
)

-- two items of a filtered list of bases with one class are one
plain_once : (h : Classes) → IsHierarchy h → (c : ClassId) (i j : ℕ) (x y : Base ClassId) → slice_get (filter is_plain_base (bases_of h c)) i ≡ Some x → slice_get (filter is_plain_base (bases_of h c)) j ≡ Some y → x.class ≡ y.class → i ≡ j
plain_once h keeps c i j x y e f same =
    let bases = bases_of h c in
    let hx = (has_filter is_plain_base bases x (has_at (filter is_plain_base bases) i x e)).0 in
    let hy = (has_filter is_plain_base bases y (has_at (filter is_plain_base bases) j y f)).0 in
    let ix = index_of bases x hx in
    let iy = index_of bases y hy in
    let at : ix.0 ≡ iy.0 = keeps.once c ix.0 iy.0 x y ix.1 iy.1 same in
    let both : Some x ≡ Some y = sym ix.1 ∙ ap (slice_get bases) at ∙ iy.1 in
    let one : x ≡ y = cc in
    once_by_place (filter is_plain_base bases) (once_filter is_plain_base bases (each_once bases (λ m k z a b. keeps.once c m k z z a b refl))) i j x e (f ∙ ap (λ (z : Base ClassId). Some z) (sym one))

module _ (h : Classes) (keeps : IsHierarchy h) (text : List ℕ) (rows written : List ClassLayout) (place : PlaceOf) (listing : IsListing h text written place) (cut : rows ≡ cut_rows written) (stands : RowsHavePlaces h rows place) where
  cut_there : (c : ClassId) (row : ClassLayout) → slice_get written c.0 ≡ Some row → slice_get rows c.0 ≡ Some (cut_row row)
  cut_there c row e = ap (λ (list : List ClassLayout). slice_get list c.0) cut ∙ mapped_at cut_row written c.0 row e

  plain_bits : (c : ClassId) (row : ClassLayout) (i : ℕ) (member : Member ClassId) (b : Bits) → slice_get written c.0 ≡ Some row → slice_get (members_of h c) i ≡ Some member → slice_get row.member_bits i ≡ Some b → member.width ≡ None → b.first ≡ 0
  plain_bits c row i member b e listed there none =
      let at : slice_get (member_bits_in (slice_get rows c.0)) i ≡ Some (cut_bits b) = ap (λ (one : Option ClassLayout). slice_get (member_bits_in one) i) (cut_there c row e) ∙ mapped_at cut_bits row.member_bits i b there in
      min_zero b.first ((stands.bits c i member (cut_bits b) listed at).first none)

  abbrev pub saids : List ClassSaid
  saids = saids_of h place 0 written

  pub all : AreSaid h text saids
  all = are_said h keeps text written place listing plain_bits

  -- the place that is said of a proper subobject
  printed_place : (c : ClassId) (row : ClassLayout) (s : Subobject) → Has (proper (preorder h c)) s → said_base_place (said_of h place c row) s ≡ place c s
  printed_place c row s has =
      let at = index_of (proper (preorder h c)) s has in
      printed_at h c (said_of h place c row) at.0 s (place c s) (preorder_lists h c keeps) at.1 (mapped_at (λ (t : Subobject). place c t) (proper (preorder h c)) at.0 s at.1)

  direct_proper : (c b : ClassId) → IsDirectBase h c false b → Has (proper (preorder h c)) (direct_base c b)
  direct_proper c b edge =
      proper_has (preorder h c) (whole_of c) (direct_base c b) (whole_first h c) (preorder_has h c keeps (direct_base c b) (whole (b ∷ []) (edge, tt)))
      (λ e. let paths : c ∷ [] ≡ c ∷ b ∷ [] = ap (λ (s : Subobject). s.path) e in absurd (cc))

  shared_proper : (c v : ClassId) → HasVirtualBase h c v → Has (proper (preorder h c)) (shared_base v)
  shared_proper c v has =
      proper_has (preorder h c) (whole_of c) (shared_base v) (whole_first h c) (preorder_has h c keeps (shared_base v) (shared v [] has tt))
      (λ e. let roots : Whole ≡ Shared v = ap (λ (s : Subobject). s.root) e in absurd (cc))

  module _ (c : ClassId) (row : ClassLayout) (e : slice_get written c.0 ≡ Some row) where
    bases_are : row.base_places ≡ map (λ (b : Base ClassId). said_base_place (said_of h place c row) (direct_base c b.class)) (filter is_plain_base (bases_of h c))
    bases_are = mapped_list (λ (b : Base ClassId). said_base_place (said_of h place c row) (direct_base c b.class)) (filter is_plain_base (bases_of h c)) row.base_places (listing.full.each c row e).each_base (λ i b at listed there.
        let plain = has_filter is_plain_base (bases_of h c) b (has_at (filter is_plain_base (bases_of h c)) i b listed) in
        let edge : IsDirectBase h c false b.class = record { base = b; listed = contains_from_has (bases_of h c) b plain.0; class = refl; way = not_virtual b.is_virtual plain.1 } in
        let number : position (λ (base : Base ClassId). nat_eq base.class.0 b.class.0) (filter is_plain_base (bases_of h c)) ≡ Some i =
        position_one (λ (base : Base ClassId). nat_eq base.class.0 b.class.0) (filter is_plain_base (bases_of h c)) i b listed (nat_itself b.class.0)
        (λ j y f on. plain_once h keeps c j i y b f listed (class_same y.class b.class (nat_same y.class.0 b.class.0 on))) in
        let read : direct_base_place h rows c b.class ≡ at =
        ap (λ (one : Option ClassLayout). nth_place (places_in_row one) (position (λ (base : Base ClassId). nat_eq base.class.0 b.class.0) (filter is_plain_base (bases_of h c)))) (cut_there c row e)
        ∙ ap (nth_place row.base_places) number ∙ ap place_or_zero there in
        sym read ∙ stands.bases c b.class edge ∙ sym (printed_place c row (direct_base c b.class) (direct_proper c b.class edge)))
      where
        not_virtual : (flag : Bool) → not flag ≡ true → flag ≡ false
        not_virtual true on = absurd (cc)
        not_virtual false on = refl

    virtual_number : (i : ℕ) (v : ClassId) → slice_get (virtual_bases h c) i ≡ Some v → position (λ (w : ClassId). nat_eq w.0 v.0) row.virtual_bases ≡ Some i
    virtual_number i v listed =
        ap (position (λ (w : ClassId). nat_eq w.0 v.0)) (listing.full.each c row e).virtuals
        ∙ position_one (λ (w : ClassId). nat_eq w.0 v.0) (virtual_bases h c) i v listed (nat_itself v.0)
        (λ j w f on. virtual_apart h c j i v (f ∙ ap (λ (x : ClassId). Some x) (class_same w v (nat_same w.0 v.0 on))) listed)

    virtual_there : (i : ℕ) (v : ClassId) → slice_get (virtual_bases h c) i ≡ Some v → HasVirtualBase h c v
    virtual_there i v listed = virtual_has h c v (has_at (virtual_bases h c) i v listed)

    virtuals_are : row.virtual_places ≡ map (λ (v : ClassId). said_base_place (said_of h place c row) (shared_base v)) (virtual_bases h c)
    virtuals_are = mapped_list (λ (v : ClassId). said_base_place (said_of h place c row) (shared_base v)) (virtual_bases h c) row.virtual_places (listing.full.each c row e).each_virtual (λ i v at listed there.
        let has = virtual_there i v listed in
        let read : virtual_place rows c v ≡ at = ap (λ (one : Option ClassLayout). virtual_place_in one v) (cut_there c row e) ∙ ap (nth_place row.virtual_places) (virtual_number i v listed) ∙ ap place_or_zero there in
        sym read ∙ stands.virtuals c v has ∙ sym (printed_place c row (shared_base v) (shared_proper c v has)))

  none_said : (i : ℕ) → slice_get written i ≡ None → slice_get saids i ≡ None
  none_said i e = let long = saids_length h place 0 written in let past = get_none written i e in slice_get_past saids i (omega arith)

  none_cut : (i : ℕ) → slice_get written i ≡ None → slice_get rows i ≡ None
  none_cut i e = let long : length rows ≡ length written = ap length cut ∙ length-map written cut_row in let past = get_none written i e in slice_get_past rows i (omega arith)

  -- the primary base of a class, by what is said and by the rows
  primary_same : (d : ClassId) → get_or (primaries_of saids) d.0 NoPrimary ≡ primary_in (slice_get rows d.0)
  primary_same d = by_row (slice_get written d.0) refl
    where
      by_row : (one : Option ClassLayout) → slice_get written d.0 ≡ one → get_or (primaries_of saids) d.0 NoPrimary ≡ primary_in (slice_get rows d.0)
      by_row (Some row) e =
          get_or_from_slice_get (primaries_of saids) d.0 row.primary NoPrimary (mapped_at (λ (s : ClassSaid). s.primary) saids d.0 (said_of h place d row) (said_row h place written d row e))
          ∙ sym (ap primary_in (cut_there d row e))
      by_row None e = none_past saids d.0 (none_said d.0 e) ∙ sym (ap primary_in (none_cut d.0 e))

  same_test : (v : ClassId) (s : Subobject) → has_primary (primaries_of saids) v s ≡ is_primary_of (places_of h rows) v (class_of s)
  same_test v s = by_class (class_of s)
    where
      by_class : (d : Option ClassId) → has_primary_in (primaries_of saids) v d ≡ is_primary_of (places_of h rows) v d
      by_class None = refl
      by_class (Some d) = ap (λ (primary : Primary). is_virtual_primary primary v) (primary_same d)

  find_same : (v : ClassId) (list : List Subobject) → find (has_primary (primaries_of saids) v) list ≡ find (λ (s : Subobject). is_primary_of (places_of h rows) v (class_of s)) list
  find_same v list = find_alike (has_primary (primaries_of saids) v) (λ (s : Subobject). is_primary_of (places_of h rows) v (class_of s)) (same_test v) list

  -- the size of a class, by what is said and by the rows
  size_same : (d : ClassId) → size_said (slice_get saids d.0) ≡ size_in_row (slice_get rows d.0)
  size_same d = by_row (slice_get written d.0) refl
    where
      by_row : (one : Option ClassLayout) → slice_get written d.0 ≡ one → size_said (slice_get saids d.0) ≡ size_in_row (slice_get rows d.0)
      by_row (Some row) e = ap size_said (said_row h place written d row e) ∙ sym (ap size_in_row (cut_there d row e))
      by_row None e = ap size_said (none_said d.0 e) ∙ sym (ap size_in_row (none_cut d.0 e))

  type_same : (type : FieldType ClassId) → said_size saids type ≡ size_of_type (places_of h rows) type
  type_same (Value type) = refl
  type_same (Object d) = size_same d

  module _ (c : ClassId) (row : ClassLayout) (e : slice_get written c.0 ≡ Some row) where
    holders_are : row.holders ≡ map (λ (v : ClassId). find (has_primary (primaries_of saids) v) (preorder h c)) (virtual_bases h c)
    holders_are = mapped_list (λ (v : ClassId). find (has_primary (primaries_of saids) v) (preorder h c)) (virtual_bases h c) row.holders (listing.full.each c row e).each_holder (λ i v at listed there.
        let has = virtual_there c row e i v listed in
        let read : (places_of h rows).holder c v ≡ at = ap (λ (one : Option ClassLayout). holder_in one v) (cut_there c row e) ∙ ap (nth_holder row.holders) (virtual_number c row e i v listed) ∙ get_or_from_slice_get row.holders i at None there in
        sym read ∙ stands.holders c v has ∙ sym (find_same v (preorder h c)))

    places_are : (places : List ℕ) (bits : List Bits) → length places ≡ length bits → places ≡ map (λ (at : MemberPlace). at.place) (member_places places bits)
    places_are [] bits long = refl
    places_are (p ∷ places) [] long = absurd (omega arith)
    places_are (p ∷ places) (b ∷ bits) long = ap (λ (rest : List ℕ). p ∷ rest) (places_are places bits (omega arith))

    bits_same : (members : List (Member ClassId)) (places : List ℕ) (bits : List Bits) → length places ≡ length members → length bits ≡ length members →
        ((i : ℕ) (member : Member ClassId) (b : Bits) → slice_get members i ≡ Some member → slice_get bits i ≡ Some b → b.width ≡ said_width saids member) →
        bits ≡ exact_bits saids members (member_places places bits)
    bits_same [] [] [] long each width = refl
    bits_same [] (p ∷ places) bits long each width = absurd (omega arith)
    bits_same [] [] (b ∷ bits) long each width = absurd (omega arith)
    bits_same (m ∷ members) [] bits long each width = absurd (omega arith)
    bits_same (m ∷ members) (p ∷ places) [] long each width = absurd (omega arith)
    bits_same (m ∷ members) (p ∷ places) (b ∷ bits) long each width =
        let make : ℕ → Bits = λ w. record { first = b.first; width = w } in
        ap (λ (w : ℕ). make w ∷ bits) (width 0 m b refl refl) ∙ ap (λ (rest : List Bits). make (said_width saids m) ∷ rest) (bits_same members places bits (omega arith) (omega arith) (λ i n q f g. width (suc i) n q f g))

    bits_are : row.member_bits ≡ exact_bits saids (members_of h c) (member_places row.member_places row.member_bits)
    bits_are = bits_same (members_of h c) row.member_places row.member_bits (listing.full.each c row e).each_member (listing.full.each c row e).each_bits (λ i member b listed there.
        let at : slice_get (member_bits_in (slice_get rows c.0)) i ≡ Some (cut_bits b) = ap (λ (one : Option ClassLayout). slice_get (member_bits_in one) i) (cut_there c row e) ∙ mapped_at cut_bits row.member_bits i b there in
        (stands.bits c i member (cut_bits b) listed at).width
        ∙ sym (width_same member.width (elements_of member.count) (said_size saids member.ty) (size_of_type (places_of h rows) member.ty) (type_same member.ty)))

    row_same : row ≡ exact_row h saids (primaries_of saids) c (said_of h place c row)
    row_same =
        let full = listing.full.each c row e in
        let lengths : length row.member_places ≡ length row.member_bits = full.each_member ∙ sym full.each_bits in
        let make : List ℕ → List ClassId → List ℕ → List (Option Subobject) → List ℕ → List Bits → ClassLayout = λ bases virtuals places holders members bits. record {
          size = row.size;
          align = row.align;
          dsize = row.dsize;
          nvsize = row.nvsize;
          nvalign = row.nvalign;
          primary = row.primary;
          base_places = bases;
          virtual_bases = virtuals;
          virtual_places = places;
          holders = holders;
          member_places = members;
          member_bits = bits;
        } in
        six_same make row.base_places _ row.virtual_bases _ row.virtual_places _ row.holders _ row.member_places _ row.member_bits _
        (bases_are c row e) full.virtuals (virtuals_are c row e) holders_are (places_are row.member_places row.member_bits lengths) bits_are

  pub rows_are : rows ≡ cut_rows (exact_rows h saids (length h))
  rows_are = items_same rows (cut_rows (exact_rows h saids (length h)))
      (ap length cut ∙ length-map written cut_row ∙ listing.full.one_each ∙ sym (length-map (exact_rows h saids (length h)) cut_row ∙ rows_length h saids (length h) (let count = all.count in omega arith)))
      (λ i x y f g.
      let w = get_mapped cut_row written i x (ap (λ (list : List ClassLayout). slice_get list i) (sym cut) ∙ f) in
      let mine = cut_at_row h saids (class_by_number i) (said_of h place (class_by_number i) w.0) all.count (said_row h place written (class_by_number i) w.0 w.1) in
      let both : Some (cut_row (exact_row h saids (primaries_of saids) (class_by_number i) (said_of h place (class_by_number i) w.0))) ≡ Some y = sym mine ∙ g in
      let one : cut_row (exact_row h saids (primaries_of saids) (class_by_number i) (said_of h place (class_by_number i) w.0)) ≡ y = cc in
      sym w.2 ∙ ap cut_row (row_same (class_by_number i) w.0 w.1) ∙ one)

  -- the places of base subobjects are those that are said
  pub places_same : (c : ClassId) (s : Subobject) → c.0 < length h → Contains (proper (preorder h c)) s → place c s ≡ said_place saids c s
  places_same c s known has =
      let row = get_within written c.0 (let long = listing.full.one_each in omega arith) in
      sym (ap (λ (one : Option ClassSaid). printed_in one s) (said_row h place written c row.0 row.1) ∙ printed_place c row.0 s (has_from_contains (proper (preorder h c)) s has))
