-- Lists of places that are told by keys, and layouts by the same components, are one.
use Rattle.std.proofs.Common.{◌≡◌, ℕ, zero, suc, ◌+◌, ◌<◌, ⊎_elim, inl, inr, Bool, true, false, cond, Option, Some, None, List, [], ◌∷◌, map, length, refl, ap, subst, sym, ◌∙◌, arith}
use Rattle.std.specs.Prelude.{if◌then◌else◌, filter, position, nat_eq, max, ◌||◌}
use Rattle.std.specs.List.{slice_get, filter_map, cons_option, position_or_len, list_any}
use Rattle.std.proofs.lemmas.Bool.{eq-eqb, eqb-true, lt-ltb, cases_order}
use Rattle.std.proofs.lemmas.List.{take_all}
use Rattle.std.proofs.lemmas.Option.{slice_get_within}
use Rattle.cxx_hierarchy.specs.declared.records.ClassId.{ClassId}
use Rattle.cxx_hierarchy.specs.Classes.{Classes}
use Rattle.cxx_subobject.specs.declared.Subobject.{Subobject}
use Rattle.cxx_subobject.specs.Subobjects.{IsSubobject, shared_base}
use Rattle.cxx_subobject.specs.Preorder.{tree, preorder}
use Rattle.cxx_subobject.specs.Subobjects.{whole_of}
use Rattle.cxx_subobject.proofs.ListLemmas.{Has, EachOnce, has_at}
use Rattle.cxx_subobject.proofs.TreeLemmas.{has_filter, has_preorder, firsts_once}
use Rattle.abi_layout.specs.declared.component.Component.{Component}
use Rattle.abi_layout.specs.declared.component.Stage.{Stage}
use Rattle.abi_sound.specs.declared.class_layout.ClassLayout.{ClassLayout}
use Rattle.abi_layout.specs.declared.placed_bases.PlacedBase.{PlacedBase}
use Rattle.abi_layout.specs.declared.placed_bases.PlacedBase.TheVariants.{Own, VirtualBase}
use Rattle.abi_sound.specs.Places.{place_or_zero, nth_place}
use Rattle.abi_layout.specs.Placements.{IsNextMultiple, ArePlaced, stage_after_all, bits_at}
use Rattle.cxx_subobject.specs.VirtualBases.{shared_class, virtual_bases}
use Rattle.cxx_subobject.proofs.VirtualBaseLemmas.{shared_is}
use Rattle.abi_layout.specs.invariants.OwnPlaces.{is_own}
use Rattle.abi_layout.specs.Layouts.{IsLayoutBy}
use Rattle.abi_layout.proofs.lists.Lists.{number, get_within}
use Rattle.abi_layout.proofs.rules.Parts.{split}
use Rattle.abi_layout.proofs.rules.PlacingLemmas.{next_is_one, places_are_one}
use Rattle.abi_layout.proofs.rules.AgreeingRows.{AgreeTo, take_agrees}
pub use Rattle.foundation.proofs.Truth.{same_test as bool_same}
pub use Rattle.foundation.proofs.Members.{index_of, has_map as has_image}
pub use Rattle.foundation.proofs.Chosen.{from_filter_map as from_chosen, has_filter_map as to_chosen}

-- lists that agree on their whole length are one
pub agree_whole : {X : Type 0} (n : ℕ) (xs ys : List X) → length xs ≡ n → length ys ≡ n → AgreeTo n xs ys → xs ≡ ys
agree_whole n xs ys a b agree = sym (take_all n xs (omega arith)) ∙ (take_agrees n xs ys agree ∙ take_all n ys (omega arith))

-- with one place more
pub agree_grows : {X : Type 0} (n : ℕ) (xs ys : List X) → AgreeTo n xs ys → slice_get xs n ≡ slice_get ys n → AgreeTo (n + 1) xs ys
agree_grows n xs ys agree here = record {
  each = λ i lt. ⊎_elim
      (λ same. ap (slice_get xs) same ∙ (here ∙ ap (slice_get ys) (sym same)))
      (λ o. ⊎_elim (λ l. agree.each i l) (λ g. absurd (omega arith)) o)
      (cases_order i n);
}

pub same_class : (a b : ClassId) → a.0 ≡ b.0 → a ≡ b
same_class a b e = let f : number a.0 ≡ number b.0 = ap number e in f

-- no two items have one key
abbrev pub EachKey : {X : Type 0} → (X → ℕ) → List X → Type 0
EachKey key [] = Unit {0}
EachKey {X} key (x ∷ xs) = ((y : X) → Has xs y → key y ≡ key x → ⊥) × EachKey key xs

pub keys_by_place : {X : Type 0} (key : X → ℕ) (xs : List X) → ((i j : ℕ) (x y : X) → slice_get xs i ≡ Some x → slice_get xs j ≡ Some y → key x ≡ key y → i ≡ j) → EachKey key xs
keys_by_place key [] once = tt
keys_by_place key (x ∷ xs) once = (
  λ y has same. let r = index_of xs y has in let e : suc r.0 ≡ zero = once (suc r.0) zero y x r.1 refl same in absurd (omega arith),
  keys_by_place key xs (λ i j y z a b same. let e : suc i ≡ suc j = once (suc i) (suc j) y z a b same in omega arith),
)

pub keys_filter : {X : Type 0} (key : X → ℕ) (p : X → Bool) (xs : List X) → EachKey key xs → EachKey key (filter p xs)
keys_filter key p [] each = tt
keys_filter {X} key p (x ∷ xs) each =
    split (p x) (λ b. EachKey key (if b then x ∷ filter p xs else filter p xs))
    (λ t. (λ y has same. each.0 y (has_filter p xs y has).0 same, keys_filter key p xs each.1))
    (λ f. keys_filter key p xs each.1)

key_first : {X : Type 0} (key : X → ℕ) (xs : List X) (i : ℕ) (x : X) (k : ℕ) → EachKey key xs → slice_get xs i ≡ Some x → key x ≡ k → position_or_len (λ (y : X). nat_eq (key y) k) xs ≡ i
key_first key [] i x k each e same = let f : None ≡ Some x = e in cc
key_first key (y ∷ xs) zero x k each e same =
    let is : y ≡ x = cc in
    let t : nat_eq (key y) k ≡ true = eq-eqb (key y) k (ap key is ∙ same) in rw t refl
key_first {X} key (y ∷ xs) (suc i) x k each e same =
    let f : nat_eq (key y) k ≡ false = split (nat_eq (key y) k) (λ b. b ≡ false) (λ t. absurd (each.0 x (has_at xs i x e) (same ∙ sym (eqb-true (key y) k t)))) (λ g. refl) in
    let r = key_first key xs i x k each.1 e same in
    rw f (omega arith)

-- the first item with the key of an item is this item
pub key_position : {X : Type 0} (key : X → ℕ) (xs : List X) (i : ℕ) (x : X) → EachKey key xs → slice_get xs i ≡ Some x → position (λ (y : X). nat_eq (key y) (key x)) xs ≡ Some i
key_position {X} key xs i x each e =
    let r = key_first key xs i x (key x) each e refl in
    let lt : position_or_len (λ (y : X). nat_eq (key y) (key x)) xs < length xs = let w = slice_get_within xs i x e in omega arith in
    let t = lt-ltb (position_or_len (λ (y : X). nat_eq (key y) (key x)) xs) (length xs) lt in
    ap (λ b. cond b (Some (position_or_len (λ (y : X). nat_eq (key y) (key x)) xs)) None) t ∙ ap (λ n. Some n) r

-- places that are the same for each item
pub places_by_keys : {X : Type 0} (key : X → ℕ) (items : List X) (ps qs : List ℕ) → EachKey key items → length ps ≡ length items → length qs ≡ length items
    → ((x : X) → Has items x → nth_place ps (position (λ (y : X). nat_eq (key y) (key x)) items) ≡ nth_place qs (position (λ (y : X). nat_eq (key y) (key x)) items)) → ps ≡ qs
places_by_keys {X} key items ps qs each a b same = agree_whole (length items) ps qs a b (record { each = at })
  where
    at : (i : ℕ) → i < length items → slice_get ps i ≡ slice_get qs i
    at i lt =
        let x = get_within items i lt in
        let p = get_within ps i (omega arith) in
        let q = get_within qs i (omega arith) in
        let here = key_position key items i x.0 each x.1 in
        let e : place_or_zero (slice_get ps i) ≡ place_or_zero (slice_get qs i) = ap (nth_place ps) (sym here) ∙ (same x.0 (has_at items i x.0 x.1) ∙ ap (nth_place qs) here) in
        let is : p.0 ≡ q.0 = ap place_or_zero (sym p.1) ∙ (e ∙ ap place_or_zero q.1) in
        p.1 ∙ (ap (λ n. Some n) is ∙ sym q.1)

pub maps_at : {X Y : Type 0} (f g : X → Y) (xs : List X) (x : X) → map f xs ≡ map g xs → Has xs x → f x ≡ g x
maps_at f g [] x e has = absurd has
maps_at {X} {Y} f g (y ∷ xs) x e has =
    let here : f y ≡ g y = cc in
    let rest : map f xs ≡ map g xs = cc in
    ⊎_elim (λ same. subst (λ z. f z ≡ g z) same here) (λ later. maps_at f g xs x rest later) has

virtual_class_keys : (h : Classes) (c : ClassId) (list : List Subobject) → ((s : Subobject) → Has list s → IsSubobject h c s) → EachOnce list → EachKey (λ (v : ClassId). v.0) (filter_map shared_class list)
virtual_class_keys h c [] valid once = tt
virtual_class_keys h c (s ∷ list) valid once = at (shared_class s) refl (virtual_class_keys h c list (λ t has. valid t (inr has)) once.1)
  where
    at : (o : Option ClassId) → shared_class s ≡ o → EachKey (λ (v : ClassId). v.0) (filter_map shared_class list) → EachKey (λ (v : ClassId). v.0) (cons_option o (filter_map shared_class list))
    at None e rest = rest
    at (Some v) e rest = (
      λ w has same.
          let r = from_chosen shared_class list w has in
          let mine = shared_is h c s v (valid s (inl refl)) e in
          let its = shared_is h c r.0 w (valid r.0 (inr r.1)) r.2 in
          let is : r.0 ≡ s = its ∙ (ap shared_base (same_class w v same) ∙ sym mine) in
          once.0 (subst (Has list) is r.1),
      rest,
    )

-- each virtual base is listed once
pub virtual_keys : (h : Classes) (c : ClassId) → EachKey (λ (v : ClassId). v.0) (virtual_bases h c)
virtual_keys h c = virtual_class_keys h c (preorder h c) (λ s has. has_preorder h c s has) (firsts_once (tree h (c.0 + 1) c (whole_of c)))

-- the direct base among placed ones
pub any_own : (b : ClassId) (bases : List PlacedBase) → list_any (is_own b) bases ≡ true → Has bases (Own b)
any_own b [] e = let f : false ≡ true = e in cc
any_own b (Own d ∷ bases) e = split (nat_eq d.0 b.0) (λ o. (o || list_any (is_own b) bases) ≡ true → Has (Own d ∷ bases) (Own b))
    (λ t some. inl (ap (λ (x : ClassId). Own x) (same_class d b (eqb-true d.0 b.0 t))))
    (λ f rest. inr (any_own b bases rest)) e
any_own b (VirtualBase v ∷ bases) e = inr (any_own b bases e)

-- two layouts by the same components
pub record IsOneLayout (p q r s : List ℕ) (x y : ClassLayout) : Type 0 where
  pub fronts : p ≡ q
  pub frees : r ≡ s
  pub members : x.member_places ≡ y.member_places
  pub bits : x.member_bits ≡ y.member_bits
  pub size : x.size ≡ y.size
  pub align : x.align ≡ y.align
  pub dsize : x.dsize ≡ y.dsize
  pub nvsize : x.nvsize ≡ y.nvsize
  pub nvalign : x.nvalign ≡ y.nvalign

pub layout_is_one : (first : Stage) (f m v : List Component) (p q r s : List ℕ) (pod : Bool) (x y : ClassLayout) → IsLayoutBy first f m v p r pod x → IsLayoutBy first f m v q s pod y → IsOneLayout p q r s x y
layout_is_one first f m v p q r s pod x y l k = record {
  fronts = fronts;
  frees = frees;
  members = members;
  bits = l.bits ∙ (ap (λ (st : Stage). bits_at st m x.member_places) mid ∙ (ap (bits_at (stage_after_all first f q) m) members ∙ sym k.bits));
  size = size;
  align = align;
  dsize = l.dsize ∙ (ap (λ n. if pod then n else (stage_after_all (stage_after_all (stage_after_all first f p) m x.member_places) v r).dsize) size ∙ (ap (λ (st : Stage). if pod then y.size else st.dsize) last ∙ sym k.dsize));
  nvsize = l.nvsize ∙ (ap (λ n. if pod then n else (stage_after_all (stage_after_all first f p) m x.member_places).size) size ∙ (ap (λ (st : Stage). if pod then y.size else st.size) inner ∙ sym k.nvsize));
  nvalign = l.nvalign ∙ (ap (λ (st : Stage). st.align) inner ∙ sym k.nvalign);
}
  where
    fronts : p ≡ q
    fronts = places_are_one first f p q l.fronts_placed k.fronts_placed

    mid : stage_after_all first f p ≡ stage_after_all first f q
    mid = ap (stage_after_all first f) fronts

    members : x.member_places ≡ y.member_places
    members = places_are_one (stage_after_all first f q) m x.member_places y.member_places (subst (λ (st : Stage). ArePlaced st m x.member_places) mid l.members_placed) k.members_placed

    inner : stage_after_all (stage_after_all first f p) m x.member_places ≡ stage_after_all (stage_after_all first f q) m y.member_places
    inner = ap (λ (st : Stage). stage_after_all st m x.member_places) mid ∙ ap (stage_after_all (stage_after_all first f q) m) members

    frees : r ≡ s
    frees = places_are_one (stage_after_all (stage_after_all first f q) m y.member_places) v r s (subst (λ (st : Stage). ArePlaced st v r) inner l.frees_placed) k.frees_placed

    last : stage_after_all (stage_after_all (stage_after_all first f p) m x.member_places) v r ≡ stage_after_all (stage_after_all (stage_after_all first f q) m y.member_places) v s
    last = ap (λ (st : Stage). stage_after_all st v r) inner ∙ ap (stage_after_all (stage_after_all (stage_after_all first f q) m y.member_places) v) frees

    align : x.align ≡ y.align
    align = l.align ∙ (ap (λ (st : Stage). st.align) last ∙ sym k.align)

    size : x.size ≡ y.size
    size =
        let end = (stage_after_all (stage_after_all (stage_after_all first f q) m y.member_places) v s).size in
        next_is_one (max 1 end) y.align x.size y.size
        (subst (λ a. IsNextMultiple (max 1 end) a x.size) align (subst (λ (st : Stage). IsNextMultiple (max 1 st.size) x.align x.size) last l.size)) k.size
