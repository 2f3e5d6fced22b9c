-- What the rows of a listing stand for.
use Rattle.std.proofs.Common.{◌≡◌, ◌∙◌, ℕ, zero, suc, ◌*◌, ◌-◌, ◌<◌, ◌^◌, Bool, true, false, Option, Some, None, List, [], ◌∷◌, length, map, filter, get_or, cond, refl, sym, ap, subst, arith}
use Rattle.std.specs.Prelude.{slice_get, min, not, nat_eq, position, Contains}
use Rattle.std.specs.List.{filter_map, find}
use Rattle.std.proofs.lemmas.List.{length-map}
use Rattle.std.proofs.lemmas.Option.{get_or_from_slice_get}
use Rattle.std.proofs.lemmas.Bool.{eqb-true, eq-eqb}
use Rattle.foundation.proofs.Places.{get_within, get_none, get_mapped}
use Rattle.foundation.proofs.Members.{Has, has_from_contains}
use Rattle.foundation.proofs.Chosen.{filter_has}
use Rattle.cxx_hierarchy.specs.declared.records.ClassId.{ClassId}
use Rattle.cxx_hierarchy.specs.declared.records.Base.{Base}
use Rattle.cxx_hierarchy.specs.declared.records.Member.{Member}
use Rattle.cxx_hierarchy.specs.declared.records.FieldType.{FieldType}
use Rattle.cxx_hierarchy.specs.declared.records.FieldType.TheVariants.{Value, Object}
use Rattle.cxx_hierarchy.specs.Classes.{Class, Classes, bases_in, bases_of, members_of, class_by_number}
use Rattle.cxx_hierarchy.specs.Declarations.{is_plain_base, elements_of}
use Rattle.cxx_hierarchy.specs.Hierarchies.{IsHierarchy}
use Rattle.cxx_hierarchy.specs.VirtualBases.{IsDirectBase, HasVirtualBase, direct, further}
use Rattle.cxx_subobject.specs.declared.Root.TheVariants.{Whole}
use Rattle.cxx_subobject.specs.declared.Subobject.{Subobject}
use Rattle.cxx_subobject.specs.Subobjects.{subobject, shared_base, class_of}
use Rattle.cxx_subobject.specs.Preorder.{preorder}
use Rattle.cxx_subobject.specs.VirtualBases.{shared_class}
use Rattle.cxx_subobject.proofs.VirtualBaseLemmas.{has_virtual}
use Rattle.abi_primary.specs.declared.Primary.{Primary}
use Rattle.abi_primary.specs.declared.Primary.TheVariants.{None as NoPrimary}
use Rattle.abi_primary.specs.PrimaryBase.{has_primary, has_primary_in, is_virtual_primary}
use Rattle.abi_sound.specs.declared.class_layout.ClassLayout.{ClassLayout}
use Rattle.abi_sound.specs.declared.class_layout.Bits.{Bits}
use Rattle.abi_sound.specs.Sound.{IsFullRow, AreFullRows, is_primary_of}
use Rattle.abi_sound.specs.Places.{places_of, base_places_in as places_in_row, nth_place, nth_holder, size_in_row, member_bits_in, primary_in, direct_base_place, virtual_place, virtual_place_in, holder_in}
use Rattle.abi_sound.specs.Locations.{size_of_type}
use Rattle.abi_foreign.specs.declared.said.ClassSaid.{ClassSaid}
use Rattle.abi_foreign.specs.Lines.{first_line}
use Rattle.abi_foreign.specs.Listings.{cut_bits, cut_row, cut_rows, width_by, AreMemberBits, RowsHavePlaces}
use Rattle.abi_foreign.specs.invariants.Said.{AreSaid}
use Rattle.abi_foreign.specs.invariants.Rows.{said_base_place, printed_in, said_place, direct_base, size_said, said_size, width_said, exact_at, exact_bits, primaries_of, exact_rows}
use Rattle.abi_foreign.proofs.Positions.{mapped_at, mapped_first, place_first, get_below}
use Rattle.abi_foreign.proofs.RowFacts.{cut_at_row, written_row, rows_length, exact_full, bits_from}

pub nat_same : (m n : ℕ) → nat_eq m n ≡ true → m ≡ n
nat_same m n h = eqb-true m n h

pub nat_itself : (n : ℕ) → nat_eq n n ≡ true
nat_itself n = eq-eqb n n refl

pub class_same : (c d : ClassId) → c.0 ≡ d.0 → c ≡ d
class_same c d e = ap class_by_number e

nothing_there : {X : Type 0} (xs : List X) (i : ℕ) (x : X) → xs ≡ [] → slice_get xs i ≡ Some x → ⊥
nothing_there [] i x none e = absurd (cc)
nothing_there (y ∷ xs) i x none e = absurd (cc)

-- a class with a base is one of the source
known_with_base : (h : Classes) (c : ClassId) (base : Base ClassId) → Contains (bases_of h c) base → c.0 < length h
known_with_base h c base has = by_class (slice_get h c.0) refl
  where
    by_class : (class : Option Class) → slice_get h c.0 ≡ class → c.0 < length h
    by_class None e = absurd (subst (λ (class : Option Class). Has (bases_in class) base) e (has_from_contains (bases_of h c) base has))
    by_class (Some class) e = get_below h c.0 class e

known_with_virtual : (h : Classes) (c v : ClassId) → HasVirtualBase h c v → c.0 < length h
known_with_virtual h _ _ (direct c v edge) = known_with_base h c edge.base edge.listed
known_with_virtual h _ _ (further c b v way edge more) = known_with_base h c edge.base edge.listed

-- with two tests that agree one thing is found
pub find_alike : {X : Type 0} (p q : X → Bool) → ((x : X) → p x ≡ q x) → (xs : List X) → find p xs ≡ find q xs
find_alike p q same [] = refl
find_alike {X} p q same (x ∷ xs) = ap (λ (b : Bool). cond b (Some x) (find p xs)) (same x) ∙ ap (λ (rest : Option X). cond (q x) (Some x) rest) (find_alike p q same xs)

-- a row that was cut tells of as much
cut_full : (h : Classes) (c : ClassId) (row : ClassLayout) → IsFullRow h c row → IsFullRow h c (cut_row row)
cut_full h c row full = record {
  each_base = full.each_base;
  virtuals = full.virtuals;
  each_virtual = full.each_virtual;
  each_holder = full.each_holder;
  each_member = full.each_member;
  each_bits = length-map row.member_bits cut_bits ∙ full.each_bits;
}

pub none_past : (saids : List ClassSaid) (i : ℕ) → slice_get saids i ≡ None → get_or (primaries_of saids) i NoPrimary ≡ NoPrimary
none_past [] i e = refl
none_past (said ∷ saids) zero e = absurd (cc)
none_past (said ∷ saids) (suc i) e = none_past saids i e

-- a width that is cut twice
pub width_same : (width : Option ℕ) (count size other : ℕ) → size ≡ other → width_said width count size ≡ width_by width (count * other)
width_same (Some n) count size other e = refl
width_same None count size other e = ap (λ (s : ℕ). width_said None count s) e ∙ cut_twice (count * other)
  where
    cut_twice : (n : ℕ) → min (min n (2 ^ 32 - 1) * 8) (2 ^ 32 - 1) ≡ min (8 * n) (2 ^ 32 - 1)
    cut_twice n = grind arith

module _ (h : Classes) (keeps : IsHierarchy h) (text : List ℕ) (saids : List ClassSaid) (all : AreSaid h text saids) where
  pub written_full : AreFullRows h (exact_rows h saids (length h))
  written_full = record {
    one_each = rows_length h saids (length h) (let count = all.count in omega arith);
    each = λ c row e.
        let of = written_row h saids c.0 row all.count e in
        subst (IsFullRow h c) (sym of.is) (exact_full h saids c (first_line h c) of.said (all.each c of.said of.there));
  }

  pub rows_full : AreFullRows h (cut_rows (exact_rows h saids (length h)))
  rows_full = record {
    one_each = length-map (exact_rows h saids (length h)) cut_row ∙ written_full.one_each;
    each = λ c row e.
        let of = get_mapped cut_row (exact_rows h saids (length h)) c.0 row e in
        subst (IsFullRow h c) of.2 (cut_full h c of.0 (written_full.each c of.0 of.1));
  }

  -- what is said of a class
  pub said_at : (c : ClassId) → c.0 < length h → (said : ClassSaid) × (slice_get saids c.0 ≡ Some said)
  said_at c known = get_within saids c.0 (let count = all.count in omega arith)

  stands_base : (c b : ClassId) → IsDirectBase h c false b → direct_base_place h (cut_rows (exact_rows h saids (length h))) c b ≡ said_place saids c (subobject Whole (c ∷ b ∷ []))
  stands_base c b edge =
      let said = said_at c (known_with_base h c edge.base edge.listed) in
      let plain : Has (filter is_plain_base (bases_of h c)) edge.base = filter_has is_plain_base (bases_of h c) edge.base (has_from_contains (bases_of h c) edge.base edge.listed) (plain_way edge.base edge.way) in
      let test : nat_eq edge.base.class.0 b.0 ≡ true = subst (λ (d : ClassId). nat_eq d.0 b.0 ≡ true) (sym edge.class) (nat_itself b.0) in
      ap (λ (row : Option ClassLayout). nth_place (places_in_row row) (position (λ (base : Base ClassId). nat_eq base.class.0 b.0) (filter is_plain_base (bases_of h c)))) (cut_at_row h saids c said.0 all.count said.1)
      ∙ place_first (λ (base : Base ClassId). said_base_place said.0 (direct_base c base.class)) (λ (base : Base ClassId). nat_eq base.class.0 b.0) (filter is_plain_base (bases_of h c)) edge.base (said_base_place said.0 (direct_base c b)) plain test
      (λ base on. ap (λ (d : ClassId). said_base_place said.0 (direct_base c d)) (class_same base.class b (nat_same base.class.0 b.0 on)))
      ∙ ap (λ (one : Option ClassSaid). printed_in one (direct_base c b)) (sym said.1)
    where
      plain_way : (base : Base ClassId) → base.is_virtual ≡ false → is_plain_base base ≡ true
      plain_way base way = ap not way

  virtual_there : (c v : ClassId) (said : ClassSaid) → slice_get saids c.0 ≡ Some said → HasVirtualBase h c v → Has (filter_map shared_class said.list) v
  virtual_there c v said e has = subst (λ (list : List Subobject). Has (filter_map shared_class list) v) (sym (all.each c said e).in_preorder) (has_virtual h keeps c v has)

  stands_virtual : (c v : ClassId) → HasVirtualBase h c v → virtual_place (cut_rows (exact_rows h saids (length h))) c v ≡ said_place saids c (shared_base v)
  stands_virtual c v has =
      let said = said_at c (known_with_virtual h c v has) in
      ap (λ (row : Option ClassLayout). virtual_place_in row v) (cut_at_row h saids c said.0 all.count said.1)
      ∙ place_first (λ (w : ClassId). said_base_place said.0 (shared_base w)) (λ (w : ClassId). nat_eq w.0 v.0) (filter_map shared_class said.0.list) v (said_base_place said.0 (shared_base v)) (virtual_there c v said.0 said.1 has) (nat_itself v.0)
      (λ w on. ap (λ (d : ClassId). said_base_place said.0 (shared_base d)) (class_same w v (nat_same w.0 v.0 on)))
      ∙ ap (λ (one : Option ClassSaid). printed_in one (shared_base v)) (sym said.1)

  -- past the last class there is no row
  no_row : (d : ClassId) → slice_get saids d.0 ≡ None → slice_get (cut_rows (exact_rows h saids (length h))) d.0 ≡ None
  no_row d e = by_row (slice_get (cut_rows (exact_rows h saids (length h))) d.0) refl
    where
      by_row : (row : Option ClassLayout) → slice_get (cut_rows (exact_rows h saids (length h))) d.0 ≡ row → row ≡ None
      by_row None is = refl
      by_row (Some row) is =
          let past = get_none saids d.0 e in
          let below = get_below (cut_rows (exact_rows h saids (length h))) d.0 row is in
          let long = rows_full.one_each in
          let count = all.count in
          absurd (omega arith)

  -- the primary base of a class, by the list of them and by the rows
  primary_same : (d : ClassId) → get_or (primaries_of saids) d.0 NoPrimary ≡ primary_in (slice_get (cut_rows (exact_rows h saids (length h))) d.0)
  primary_same d = by_said (slice_get saids d.0) refl
    where
      by_said : (one : Option ClassSaid) → slice_get saids d.0 ≡ one → get_or (primaries_of saids) d.0 NoPrimary ≡ primary_in (slice_get (cut_rows (exact_rows h saids (length h))) d.0)
      by_said (Some said) e =
          get_or_from_slice_get (primaries_of saids) d.0 said.primary NoPrimary (mapped_at (λ (s : ClassSaid). s.primary) saids d.0 said e)
          ∙ sym (ap primary_in (cut_at_row h saids d said all.count e))
      by_said None e = none_past saids d.0 e ∙ sym (ap primary_in (no_row d e))

  same_test : (v : ClassId) (s : Subobject) → has_primary (primaries_of saids) v s ≡ is_primary_of (places_of h (cut_rows (exact_rows h saids (length h)))) v (class_of s)
  same_test v s = by_class (class_of s)
    where
      by_class : (d : Option ClassId) → has_primary_in (primaries_of saids) v d ≡ is_primary_of (places_of h (cut_rows (exact_rows h saids (length h)))) v d
      by_class None = refl
      by_class (Some d) = ap (λ (primary : Primary). is_virtual_primary primary v) (primary_same d)

  stands_holder : (c v : ClassId) → HasVirtualBase h c v → (places_of h (cut_rows (exact_rows h saids (length h)))).holder c v
      ≡ find (λ (s : Subobject). is_primary_of (places_of h (cut_rows (exact_rows h saids (length h)))) v (class_of s)) (preorder h c)
  stands_holder c v has =
      let said = said_at c (known_with_virtual h c v has) in
      let f : ClassId → Option Subobject = λ w. find (has_primary (primaries_of saids) w) said.0.list in
      let at = mapped_first f (λ (w : ClassId). nat_eq w.0 v.0) (filter_map shared_class said.0.list) v (f v) (virtual_there c v said.0 said.1 has) (nat_itself v.0) (λ w on. ap f (class_same w v (nat_same w.0 v.0 on))) in
      ap (λ (row : Option ClassLayout). holder_in row v) (cut_at_row h saids c said.0 all.count said.1)
      ∙ ap (nth_holder (map f (filter_map shared_class said.0.list))) at.1
      ∙ get_or_from_slice_get (map f (filter_map shared_class said.0.list)) at.0 (f v) None at.2
      ∙ find_alike (has_primary (primaries_of saids) v) (λ (s : Subobject). is_primary_of (places_of h (cut_rows (exact_rows h saids (length h)))) v (class_of s)) (same_test v) said.0.list
      ∙ ap (find (λ (s : Subobject). is_primary_of (places_of h (cut_rows (exact_rows h saids (length h)))) v (class_of s))) (all.each c said.0 said.1).in_preorder

  -- the size of a class, by what is said and by the rows
  size_same : (e : ClassId) → size_said (slice_get saids e.0) ≡ size_in_row (slice_get (cut_rows (exact_rows h saids (length h))) e.0)
  size_same d = by_said (slice_get saids d.0) refl
    where
      by_said : (one : Option ClassSaid) → slice_get saids d.0 ≡ one → size_said one ≡ size_in_row (slice_get (cut_rows (exact_rows h saids (length h))) d.0)
      by_said (Some said) e = sym (ap size_in_row (cut_at_row h saids d said all.count e))
      by_said None e = sym (ap size_in_row (no_row d e))

  type_same : (type : FieldType ClassId) → said_size saids type ≡ size_of_type (places_of h (cut_rows (exact_rows h saids (length h)))) type
  type_same (Value type) = refl
  type_same (Object e) = size_same e

  stands_bits : (c : ClassId) (m : ℕ) (member : Member ClassId) (bits : Bits) → slice_get (members_of h c) m ≡ Some member → slice_get (member_bits_in (slice_get (cut_rows (exact_rows h saids (length h))) c.0)) m ≡ Some bits →
      AreMemberBits (places_of h (cut_rows (exact_rows h saids (length h)))) member bits
  stands_bits c m member bits listed there = by_said (slice_get saids c.0) refl
    where
      by_said : (one : Option ClassSaid) → slice_get saids c.0 ≡ one → AreMemberBits (places_of h (cut_rows (exact_rows h saids (length h)))) member bits
      by_said None e = absurd (nothing_there (member_bits_in (slice_get (cut_rows (exact_rows h saids (length h))) c.0)) m bits (ap member_bits_in (no_row c e)) there)
      by_said (Some said) e =
          let cut : slice_get (map cut_bits (exact_bits saids (members_of h c) said.members)) m ≡ Some bits = ap (λ (row : Option ClassLayout). slice_get (member_bits_in row) m) (sym (cut_at_row h saids c said all.count e)) ∙ there in
          let exact = get_mapped cut_bits (exact_bits saids (members_of h c) said.members) m bits cut in
          let of = bits_from saids (members_of h c) said.members m exact.0 (all.each c said e).members exact.1 in
          let one : Some of.member ≡ Some member = sym of.listed ∙ listed in
          let same : of.member ≡ member = cc in
          let is : bits ≡ cut_bits (exact_at saids member of.at) = sym exact.2 ∙ ap cut_bits (of.is ∙ ap (λ (x : Member ClassId). exact_at saids x of.at) same) in
          subst (AreMemberBits (places_of h (cut_rows (exact_rows h saids (length h)))) member) (sym is) (record {
            first = λ none. ap (λ (n : ℕ). min n 255) (of.small.2 (ap (λ (x : Member ClassId). x.width) same ∙ none));
            width = width_same member.width (elements_of member.count) (said_size saids member.ty) (size_of_type (places_of h (cut_rows (exact_rows h saids (length h)))) member.ty) (type_same member.ty);
          })

  pub stands : RowsHavePlaces h (cut_rows (exact_rows h saids (length h))) (said_place saids)
  stands = record { bases = stands_base; virtuals = stands_virtual; holders = stands_holder; bits = stands_bits }
