-- Data members of one type lie at different places, so that the bytes of a pointer tell which one it names.
use Rattle.std.proofs.Common.{◌≡◌, ℕ, ◌+◌, ◌*◌, ◌<◌, ◌≤◌, ◌⊎◌, ⊎_elim, Bool, true, false, Option, Some, None, List, [], ◌∷◌, refl, ap, subst, sym, ◌∙◌, arith}
use Rattle.std.specs.Prelude.{nat_eq, slice_get, length, ◌^◌}
use Rattle.std.specs.Int.{w64, to_le_bytes, from_le_bytes}
use Rattle.std.proofs.lemmas.Bool.{eqb-true, eq-eqb}
use Rattle.std.proofs.lemmas.Nat.{from_le_bytes-to_le_bytes_8}
use Rattle.foundation.proofs.Places.{contains_at}
use Rattle.cxx_hierarchy.specs.declared.records.ClassId.{ClassId}
use Rattle.cxx_hierarchy.specs.declared.records.Member.{Member as MemberRecord}
use Rattle.cxx_hierarchy.specs.declared.records.FieldType.{FieldType}
use Rattle.cxx_hierarchy.specs.declared.records.FieldType.TheVariants.{Value, Object}
use Rattle.cxx_hierarchy.specs.declared.records.ValueType.{ValueType}
use Rattle.cxx_hierarchy.specs.Classes.{Classes, members_of, width_in, width_of_member}
use Rattle.cxx_hierarchy.specs.Declarations.{elements_of}
use Rattle.cxx_hierarchy.specs.Hierarchies.{IsHierarchy}
use Rattle.cxx_subobject.specs.declared.Subobject.{Subobject}
use Rattle.cxx_subobject.specs.declared.locations.Hop.{Hop}
use Rattle.cxx_subobject.specs.declared.locations.Hop.TheVariants.{Inherit, Member as MemberHop}
use Rattle.cxx_subobject.specs.Locations.{IsElement, LeadsTo, to_subobject, to_value, to_inner}
use Rattle.cxx_subobject.specs.Subobjects.{IsSubobject, whole, class_of, same_subobject, whole_of}
use Rattle.cxx_subobject.proofs.TreeLemmas.{subobject_same, same_itself}
use Rattle.abi_sound.specs.declared.class_layout.ClassLayout.{ClassLayout}
use Rattle.abi_sound.specs.Places.{Places, places_of, size_of_value}
use Rattle.abi_sound.specs.Locations.{place_along_hops, leaf_span, bits_of_value, Span, AreDisjoint}
use Rattle.abi_sound.specs.Sound.{IsSoundLayout, IsSoundClass, IsAligned}
use Rattle.abi_sound.proofs.LeafSpans.{EndsIn, last_element, some_bits, span_is, value_span}
use Rattle.abi_sound.proofs.PlaceLemmas.{place_at_value, place_at_inner}
use Rattle.abi_memptr.specs.declared.pointers.MemberPointer.{MemberPointer}
use Rattle.abi_memptr.specs.declared.pointers.MemberPointer.TheVariants.{Data}
use Rattle.abi_memptr.specs.Pointers.{IsDataIn}
use Rattle.abi_memptr.specs.PointerBytes.{data_place, word_bytes}

-- small numbers with the same bytes are one
pub one_word : (a b : ℕ) → a < 2 ^ 64 → b < 2 ^ 64 → word_bytes a ≡ word_bytes b → a ≡ b
one_word a b low high same = sym (from_le_bytes-to_le_bytes_8 a low) ∙ (ap (from_le_bytes w64) same ∙ from_le_bytes-to_le_bytes_8 b high)

abbrev first_base : List Hop → Option Subobject
first_base [] = None
first_base (Inherit s ∷ hops) = Some s
first_base (MemberHop m i ∷ hops) = None

abbrev second_member : List Hop → Option ℕ
second_member [] = None
second_member (MemberHop m i ∷ hops) = None
second_member (Inherit s ∷ []) = None
second_member (Inherit s ∷ Inherit t ∷ hops) = None
second_member (Inherit s ∷ MemberHop m i ∷ hops) = Some m

-- a member has a first element
first_element : (count : Option ℕ) → ((n : ℕ) → count ≡ Some n → 1 ≤ n) → 0 < elements_of count
first_element None some = omega arith
first_element (Some n) some = let k = some n refl in omega arith

module _ (h : Classes) (rows : List ClassLayout) (keeps : IsHierarchy h) (sound : IsSoundLayout h rows) (d : ClassId) where
  abbrev l : Places
  l = places_of h rows

  element : (c : ClassId) (m : ℕ) (s : Subobject) (a : IsDataIn h d c m s) (type : FieldType ClassId) → a.member.ty ≡ type → IsElement h c m 0 type
  element c m s a type is = record {
    member = a.member;
    there = a.there;
    type_is = is;
    within = first_element a.member.count (λ n e. (keeps.counts c a.member n (contains_at (members_of h c) m a.member a.there) e).0);
  }

  -- a number or a pointer, as a leaf of the object
  record IsLeaf (c : ClassId) (m : ℕ) (s : Subobject) (type : ValueType ClassId) : Type 0 where
    leads : LeadsTo h d (Inherit s ∷ MemberHop m 0 ∷ []) (Value type)
    start : (leaf_span h (places_of h rows) d (Inherit s ∷ MemberHop m 0 ∷ [])).start ≡ 8 * data_place (places_of h rows) d c m s
    some : 1 ≤ (leaf_span h (places_of h rows) d (Inherit s ∷ MemberHop m 0 ∷ [])).length
    bound : data_place (places_of h rows) d c m s ≤ 1048576

  leaf : (c : ClassId) (m : ℕ) (s : Subobject) (a : IsDataIn h d c m s) (type : ValueType ClassId) → a.member.ty ≡ Value type → IsLeaf c m s type
  leaf c m s a type is =
      let e = element c m s a (Value type) is in
      let hops = Inherit s ∷ MemberHop m 0 ∷ [] in
      let leads : LeadsTo h d hops (Value type) = to_value d c s m 0 type a.valid a.class e in
      let last = last_element h (Some d) c s m 0 a.class in
      let x : EndsIn h d hops type = record { class = c; member = m; index = 0; last = last; element = e } in
      let span = span_is h l d hops type x in
      let place = place_at_value h l d c s m 0 type a.class e in
      let laws = sound.each d a.known in
      let width : width_of_member h c m ≡ None = ap width_in a.there ∙ a.unit in
      let aligned : IsAligned None type (place_along_hops h l d hops) (l.first c m) = subst (λ w. IsAligned w type (place_along_hops h l d hops) (l.first c m)) width (laws.aligned type hops c m leads last) in
      let first = aligned.1 in
      let start : (leaf_span h l d hops).start ≡ 8 * place_along_hops h l d hops + l.first c m = ap (λ (z : Span). z.start) span in
      let many : (leaf_span h l d hops).length ≡ bits_of_value (width_of_member h c m) type = ap (λ (z : Span). z.length) span in
      let some = some_bits h keeps c m 0 type e in
      let inside = laws.leaf_inside type hops leads in
      let size = laws.bounded in
      let here : (leaf_span h l d hops).start ≡ 8 * data_place l d c m s = omega (arith, start, first, place) in
      record {
        leads = leads;
        start = here;
        some = subst (λ n. 1 ≤ n) (sym many) some;
        bound = omega (arith, here, inside, size);
      }

  -- two leaves at one place can't have different hops
  never_two : (c e : ClassId) (m n : ℕ) (s t : Subobject) (type : ValueType ClassId) → d.0 < length h → IsLeaf c m s type → IsLeaf e n t type → data_place (places_of h rows) d c m s ≡ data_place (places_of h rows) d e n t →
      (Inherit s ∷ MemberHop m 0 ∷ [] ≡ Inherit t ∷ MemberHop n 0 ∷ [] → ⊥) → ⊥
  never_two c e m n s t type known a b same differ =
      let apart = (sound.each d known).leaves_apart type type (Inherit s ∷ MemberHop m 0 ∷ []) (Inherit t ∷ MemberHop n 0 ∷ []) a.leads b.leads differ in
      let x = a.start in
      let y = b.start in
      let u = a.some in
      let v = b.some in
      ⊎_elim (λ p. omega (arith, x, y, u, v, same, p)) (λ q. omega (arith, x, y, u, v, same, q)) apart

  -- hops of one member are those of one subobject
  one_pair : (m n : ℕ) (s t : Subobject) (x y : List Hop) → Inherit s ∷ MemberHop m 0 ∷ x ≡ Inherit t ∷ MemberHop n 0 ∷ y → (s ≡ t) × (m ≡ n)
  one_pair m n s t x y e =
      let base : Some s ≡ Some t = ap first_base e in
      let number : Some m ≡ Some n = ap second_member e in
      (cc, cc)

  -- what lies at one place is one, where the contrary can't be
  settled : (m n : ℕ) (s t : Subobject) → ((Inherit s ∷ MemberHop m 0 ∷ [] ≡ Inherit t ∷ MemberHop n 0 ∷ [] → ⊥) → ⊥) → (p q : Bool) → same_subobject s t ≡ p → nat_eq m n ≡ q → (s ≡ t) × (m ≡ n)
  settled m n s t never false q e f = absurd (never (λ same. let k = (one_pair m n s t [] [] same).0 in let i = same_itself s in let j : same_subobject s t ≡ true = subst (λ z. same_subobject s z ≡ true) k i in cc))
  settled m n s t never true false e f = absurd (never (λ same. let k = eq-eqb m n (one_pair m n s t [] [] same).1 in cc))
  settled m n s t never true true e f = (subobject_same s t e, eqb-true m n f)

  same_pointer : (c e : ClassId) (m n : ℕ) (s t : Subobject) → class_of s ≡ Some c → class_of t ≡ Some e → s ≡ t → m ≡ n → Data c m s ≡ Data e n t
  same_pointer c e m n s t x y base number =
      let both : Some c ≡ Some e = sym x ∙ (ap class_of base ∙ y) in
      let class : c ≡ e = cc in
      ap (λ k. Data k m s) class ∙ (ap (λ k. Data e k s) number ∙ ap (λ u. Data e n u) base)

  -- an object that is a member, at its place
  record IsObject (c : ClassId) (m : ℕ) (s : Subobject) (k : ClassId) : Type 0 where
    leads : LeadsTo h d (Inherit s ∷ MemberHop m 0 ∷ Inherit (whole_of k) ∷ []) (Object k)
    place : place_along_hops h (places_of h rows) d (Inherit s ∷ MemberHop m 0 ∷ Inherit (whole_of k) ∷ []) ≡ data_place (places_of h rows) d c m s + place_along_hops h (places_of h rows) k (Inherit (whole_of k) ∷ [])
    bound : data_place (places_of h rows) d c m s ≤ 1048576

  object : (c : ClassId) (m : ℕ) (s : Subobject) (a : IsDataIn h d c m s) (k : ClassId) → a.member.ty ≡ Object k → IsObject c m s k
  object c m s a k is =
      let e = element c m s a (Object k) is in
      let hops = Inherit s ∷ MemberHop m 0 ∷ Inherit (whole_of k) ∷ [] in
      let leads : LeadsTo h d hops (Object k) = to_inner d c k s m 0 (Inherit (whole_of k) ∷ []) (Object k) a.valid a.class e (to_subobject k k (whole_of k) (whole [] tt) refl) in
      let inner = place_at_inner h l d c k s m 0 (Inherit (whole_of k) ∷ []) a.class e in
      let laws = sound.each d a.known in
      let inside = laws.begins_inside k hops leads in
      let size = laws.bounded in
      let place : place_along_hops h l d hops ≡ data_place l d c m s + place_along_hops h l k (Inherit (whole_of k) ∷ []) = omega (arith, inner) in
      record { leads = leads; place = place; bound = omega (arith, place, inside, size) }

  bounded : (c : ClassId) (m : ℕ) (s : Subobject) (a : IsDataIn h d c m s) (type : FieldType ClassId) → a.member.ty ≡ type → data_place (places_of h rows) d c m s ≤ 1048576
  bounded c m s a (Value type) is = (leaf c m s a type is).bound
  bounded c m s a (Object k) is = (object c m s a k is).bound

  one_place : (c e : ClassId) (m n : ℕ) (s t : Subobject) (a : IsDataIn h d c m s) (b : IsDataIn h d e n t) (type : FieldType ClassId) → a.member.ty ≡ type → b.member.ty ≡ type → data_place (places_of h rows) d c m s ≡ data_place (places_of h rows) d e n t → Data c m s ≡ Data e n t
  one_place c e m n s t a b (Value type) x y same =
      let p = leaf c m s a type x in
      let q = leaf e n t b type y in
      let k = settled m n s t (never_two c e m n s t type a.known p q same) (same_subobject s t) (nat_eq m n) refl refl in
      same_pointer c e m n s t a.class b.class k.0 k.1
  one_place c e m n s t a b (Object k) x y same =
      let p = object c m s a k x in
      let q = object e n t b k y in
      let first = p.place in
      let second = q.place in
      let at : place_along_hops h l d (Inherit s ∷ MemberHop m 0 ∷ Inherit (whole_of k) ∷ []) ≡ place_along_hops h l d (Inherit t ∷ MemberHop n 0 ∷ Inherit (whole_of k) ∷ []) = omega (arith, first, second, same) in
      let hops = (sound.each d a.known).distinct k (Inherit s ∷ MemberHop m 0 ∷ Inherit (whole_of k) ∷ []) (Inherit t ∷ MemberHop n 0 ∷ Inherit (whole_of k) ∷ []) p.leads q.leads at in
      let r = one_pair m n s t (Inherit (whole_of k) ∷ []) (Inherit (whole_of k) ∷ []) hops in
      same_pointer c e m n s t a.class b.class r.0 r.1

  -- the bytes of two pointers to data of one type are the same only where they name the same field
  pub one_field : (c e : ClassId) (m n : ℕ) (s t : Subobject) (a : IsDataIn h d c m s) (b : IsDataIn h d e n t) → a.member.ty ≡ b.member.ty → word_bytes (data_place (places_of h rows) d c m s) ≡ word_bytes (data_place (places_of h rows) d e n t) → Data c m s ≡ Data e n t
  one_field c e m n s t a b type same =
      let low = bounded c m s a a.member.ty refl in
      let high = bounded e n t b b.member.ty refl in
      one_place c e m n s t a b a.member.ty refl (sym type) (one_word (data_place l d c m s) (data_place l d e n t) (omega (arith, low)) (omega (arith, high)) same)
