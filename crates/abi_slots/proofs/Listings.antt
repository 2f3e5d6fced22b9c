-- What classes list: one equation a class, and where the entry of a function and the word of an offset stand.
use Rattle.std.proofs.Common.{◌≡◌, ℕ, zero, suc, ◌+◌, ◌<◌, ◌⊎◌, inl, inr, ⊎_elim, Bool, true, false, Option, Some, None, List, [], ◌∷◌, ◌++◌, map, length, refl, ap, subst, sym, ◌∙◌, arith}
use Rattle.std.specs.Prelude.{◌&&◌, not, if◌then◌else◌, slice_get}
use Rattle.std.specs.List.{list_any, find, filter, flat_map}
use Rattle.std.proofs.lemmas.Bool.{eq-eqb, and_parts}
use Rattle.cxx_hierarchy.specs.declared.records.ClassId.{ClassId}
use Rattle.cxx_hierarchy.specs.declared.records.Base.{Base}
use Rattle.cxx_hierarchy.specs.Classes.{Classes, bases_of}
use Rattle.cxx_hierarchy.specs.Hierarchies.{IsHierarchy}
use Rattle.cxx_hierarchy.specs.VirtualBases.{IsDirectBase, HasVirtualBase}
use Rattle.cxx_subobject.specs.Subobjects.{Leads, last_of}
use Rattle.cxx_subobject.proofs.PathLemmas.{base_before, virtual_below}
use Rattle.cxx_overrider.specs.declared.FunctionId.{FunctionId}
use Rattle.cxx_overrider.specs.Functions.{Signature, signature_of}
use Rattle.abi_primary.specs.declared.Primary.{Primary}
use Rattle.abi_primary.specs.declared.Primary.TheVariants.{None as NoPrimary, Direct, Virtual}
use Rattle.abi_primary.specs.Kinds.{IsDynamic}
use Rattle.abi_sound.specs.Places.{Places}
use Rattle.abi_slots.specs.declared.words.EntryKey.{EntryKey}
use Rattle.abi_slots.specs.declared.words.Offset.{Offset}
use Rattle.abi_slots.specs.declared.words.Offset.TheVariants.{ToBase, ToOverrider}
use Rattle.cxx_overrider.specs.Virtuals.{same_name, own}
use Rattle.cxx_subobject.specs.VirtualBases.{virtual_bases}
use Rattle.abi_primary.specs.PrimaryBase.{is_direct_primary}
use Rattle.abi_slots.specs.Listing.{same_kind, needs_return, keys_of, shares, same_entry_key, or_itself, listing, entry_number, vbase_number, is_base, same_offset, push_new, primary_entries, new_entries, with_new_entries, entries_in, entries, is_nonvirtual_primary, is_secondary_base, below_bases, call, calls_in, calls, with_calls, push_all, primary_offsets, offsets_in, offsets}
use Rattle.abi_slots.proofs.Lists.{Keeps, keeps_itself, keeps_through, keeps_front, Item, item_first, item_later, item_left, item_right, item_none, item_split, item_cases, item_map, item_filter, from_filter, any_item, item_any, any_right, at_place, found_passes, found_some, found_none, flat_same}
use Rattle.abi_slots.proofs.Names.{kind_is, key_is, key_itself, base_is}
use Rattle.abi_slots.proofs.Bases.{contains_item, virtual_item}
use Rattle.foundation.proofs.Truth.{split}
use Rattle.cxx_search.proofs.Names.{signature_name}

-- a primary base is a direct base that is not virtual, or a virtual base
pub record ArePrimaries (h : Classes) (l : Places) : Type 0 where
  pub direct : (c b : ClassId) → c.0 < length h → l.primary c ≡ Direct b → IsDirectBase h c false b × IsDynamic h b
  pub virtual : (c v : ClassId) → c.0 < length h → l.primary c ≡ Virtual v → HasVirtualBase h c v × IsDynamic h v

module _ (h : Classes) (l : Places) (keeps : IsHierarchy h) where
  calls_below_same : (f g : List ClassId → ClassId → List Offset) (path : List ClassId) (p : Base ClassId → Bool) (c : ClassId) → ((more : List ClassId) (b : ClassId) → b.0 < c.0 → f more b ≡ g more b) → below_bases f path (filter p (bases_of h c)) ≡ below_bases g path (filter p (bases_of h c))
  calls_below_same f g path p c same = flat_same (λ (base : Base ClassId). f (path ++ base.class ∷ []) base.class) (λ (base : Base ClassId). g (path ++ base.class ∷ []) base.class) (filter p (bases_of h c))
      (λ base i. same (path ++ base.class ∷ []) base.class (keeps.bases c base (contains_item (bases_of h c) base (from_filter p (bases_of h c) base i).0)))

  pub calls_steps : (n m : ℕ) (path : List ClassId) (c : ClassId) → c.0 < n → c.0 < m → calls_in h l n path c ≡ calls_in h l m path c
  calls_steps zero m path c a b = absurd (omega arith)
  calls_steps (suc n) zero path c a b = absurd (omega arith)
  calls_steps (suc n) (suc m) path c a b =
      let same = λ (more : List ClassId) (d : ClassId) (lt : d.0 < c.0). calls_steps n m more d (omega arith) (omega arith) in
      let first = calls_below_same (calls_in h l n) (calls_in h l m) path (is_nonvirtual_primary (l.primary c)) c same in
      let other = calls_below_same (calls_in h l n) (calls_in h l m) path (is_secondary_base (l.primary c)) c same in
      ap (λ xs. xs ++ map (call path) (own h c) ++ below_bases (calls_in h l n) path (filter (is_secondary_base (l.primary c)) (bases_of h c))) first
      ∙ ap (λ xs. below_bases (calls_in h l m) path (filter (is_nonvirtual_primary (l.primary c)) (bases_of h c)) ++ map (call path) (own h c) ++ xs) other

module _ (h : Classes) (l : Places) (keeps : IsHierarchy h) (are : ArePrimaries h l) where
  direct_before : (c b : ClassId) → c.0 < length h → l.primary c ≡ Direct b → b.0 < c.0
  direct_before c b known e = base_before h keeps c b false (are.direct c b known e).0

  virtual_before : (c v : ClassId) → c.0 < length h → l.primary c ≡ Virtual v → v.0 < c.0
  virtual_before c v known e = virtual_below h keeps c v (are.virtual c v known e).0

  -- two ways to give the entries of classes give those of a primary base alike
  entries_alike : (f g : ClassId → List EntryKey) (c : ClassId) → c.0 < length h → ((b : ClassId) → b.0 < c.0 → f b ≡ g b) → primary_entries f (l.primary c) ≡ primary_entries g (l.primary c)
  entries_alike f g c known same = by_primary (l.primary c) refl
    where
      by_primary : (p : Primary) → l.primary c ≡ p → primary_entries f p ≡ primary_entries g p
      by_primary NoPrimary e = refl
      by_primary (Direct b) e = same b (direct_before c b known e)
      by_primary (Virtual v) e = same v (virtual_before c v known e)

  offsets_alike : (f g : Bool → ClassId → List Offset) (c : ClassId) → c.0 < length h → ((is_shared : Bool) (b : ClassId) → b.0 < c.0 → f is_shared b ≡ g is_shared b) → primary_offsets f (l.primary c) ≡ primary_offsets g (l.primary c)
  offsets_alike f g c known same = by_primary (l.primary c) refl
    where
      by_primary : (p : Primary) → l.primary c ≡ p → primary_offsets f p ≡ primary_offsets g p
      by_primary NoPrimary e = refl
      by_primary (Direct b) e = same false b (direct_before c b known e)
      by_primary (Virtual v) e = same true v (virtual_before c v known e)

  entries_steps : (n m : ℕ) (c : ClassId) → c.0 < length h → c.0 < n → c.0 < m → entries_in h l n c ≡ entries_in h l m c
  entries_steps zero m c known a b = absurd (omega arith)
  entries_steps (suc n) zero c known a b = absurd (omega arith)
  entries_steps (suc n) (suc m) c known a b = ap (with_new_entries h l c) (entries_alike (entries_in h l n) (entries_in h l m) c known (λ d lt. entries_steps n m d (omega arith) (omega arith) (omega arith)))

  -- the entries of a class, by those of its primary base
  pub entries_is : (c : ClassId) → c.0 < length h → entries h l c ≡ with_new_entries h l c (primary_entries (entries h l) (l.primary c))
  entries_is c known =
      let e : c.0 + 1 ≡ suc c.0 = omega arith in
      ap (λ n. entries_in h l n c) e ∙ ap (with_new_entries h l c) (entries_alike (entries_in h l c.0) (entries h l) c known (λ d lt. entries_steps c.0 (d.0 + 1) d (omega arith) lt (omega arith)))

  offsets_steps : (n m : ℕ) (is_shared : Bool) (c : ClassId) → c.0 < length h → c.0 < n → c.0 < m → offsets_in h l n is_shared c ≡ offsets_in h l m is_shared c
  offsets_steps zero m is_shared c known a b = absurd (omega arith)
  offsets_steps (suc n) zero is_shared c known a b = absurd (omega arith)
  offsets_steps (suc n) (suc m) is_shared c known a b = ap (λ old. with_calls h l c is_shared (push_all h old (map ToBase (virtual_bases h c)))) (offsets_alike (offsets_in h l n) (offsets_in h l m) c known (λ s d lt. offsets_steps n m s d (omega arith) (omega arith) (omega arith)))

  -- the offsets of a class, by those of its primary base
  pub offsets_is : (is_shared : Bool) (c : ClassId) → c.0 < length h → offsets h l is_shared c ≡ with_calls h l c is_shared (push_all h (primary_offsets (offsets h l) (l.primary c)) (map ToBase (virtual_bases h c)))
  offsets_is is_shared c known =
      let e : c.0 + 1 ≡ suc c.0 = omega arith in
      ap (λ n. offsets_in h l n is_shared c) e ∙ ap (λ old. with_calls h l c is_shared (push_all h old (map ToBase (virtual_bases h c)))) (offsets_alike (offsets_in h l c.0) (offsets h l) c known (λ s d lt. offsets_steps c.0 (d.0 + 1) s d (omega arith) lt (omega arith)))

-- what a push keeps and gives

push_new_keeps : (h : Classes) (old : List Offset) (x : Offset) → Keeps old (push_new h old x)
push_new_keeps h old x = split (list_any (same_offset h x) old) (λ b. Keeps old (if b then old else old ++ x ∷ [])) (λ t. keeps_itself old) (λ t. keeps_front old (x ∷ []))

pub push_all_keeps : (h : Classes) (old xs : List Offset) → Keeps old (push_all h old xs)
push_all_keeps h old [] = keeps_itself old
push_all_keeps h old (x ∷ xs) = keeps_through old (push_new h old x) (push_all h (push_new h old x) xs) (push_new_keeps h old x) (push_all_keeps h (push_new h old x) xs)

any_keeps : {A : Type 0} (p : A → Bool) (xs ys : List A) → Keeps xs ys → list_any p xs ≡ true → list_any p ys ≡ true
any_keeps p xs ys k e = let r = item_any p xs e in any_item p ys r.0 (record { index = r.1.index; there = k.stays r.1.index r.0 r.1.there }) r.2

push_new_has : (h : Classes) (p : Offset → Bool) (old : List Offset) (x : Offset) → p x ≡ true → ((z : Offset) → same_offset h x z ≡ true → p z ≡ true) → list_any p (push_new h old x) ≡ true
push_new_has h p old x e closed = split (list_any (same_offset h x) old) (λ b. list_any (same_offset h x) old ≡ b → list_any p (if b then old else old ++ x ∷ []) ≡ true)
    (λ t same. let r = item_any (same_offset h x) old same in any_item p old r.0 r.1 (closed r.0 r.2))
    (λ t same. any_right p old (x ∷ []) (any_item p (x ∷ []) x (item_first x []) e)) refl

pub push_all_has : (h : Classes) (p : Offset → Bool) (old xs : List Offset) (x : Offset) → Item xs x → p x ≡ true → ((z : Offset) → same_offset h x z ≡ true → p z ≡ true) → list_any p (push_all h old xs) ≡ true
push_all_has h p old [] x i e closed = absurd (item_none x i)
push_all_has h p old (y ∷ xs) x i e closed = ⊎_elim
    (λ same. any_keeps p (push_new h old y) (push_all h (push_new h old y) xs) (push_all_keeps h (push_new h old y) xs) (subst (λ a. list_any p (push_new h old a) ≡ true) (sym same) (push_new_has h p old x e closed)))
    (λ j. push_all_has h p (push_new h old y) xs x j e closed)
    (item_split y xs x i)

push_new_item : (h : Classes) (old : List Offset) (x z : Offset) → Item (push_new h old x) z → Item old z ⊎ (x ≡ z)
push_new_item h old x z = split (list_any (same_offset h x) old) (λ b. Item (if b then old else old ++ x ∷ []) z → Item old z ⊎ (x ≡ z))
    (λ t i. inl i)
    (λ t i. ⊎_elim (λ a. inl a) (λ b. ⊎_elim (λ e. inr e) (λ n. absurd (item_none z n)) (item_split x [] z b)) (item_cases old (x ∷ []) z i))

pub push_all_item : (h : Classes) (old xs : List Offset) (z : Offset) → Item (push_all h old xs) z → Item old z ⊎ Item xs z
push_all_item h old [] z i = inl i
push_all_item h old (x ∷ xs) z i = ⊎_elim
    (λ a. ⊎_elim (λ b. inl b) (λ e. inr (record { index = 0; there = ap (λ q. Some q) e })) (push_new_item h old x z a))
    (λ b. inr (item_later x xs z b))
    (push_all_item h (push_new h old x) xs z i)

-- where a vcall word comes from: a function of a class below a virtual base, or below the class itself where this lists
-- as a virtual base
pub record IsCallOf (h : Classes) (is_shared : Bool) (c u : ClassId) (path : List ClassId) (g : FunctionId) : Type 0 where
  pub base : ((is_shared ≡ true) × (u ≡ c)) ⊎ HasVirtualBase h c u
  pub leads : Leads h u path
  pub ends : last_of u path ≡ g.class
  pub declares : Item (own h g.class) g

pub data IsListable (h : Classes) (is_shared : Bool) (c : ClassId) : Offset → Type 0 where
  a_base : (v : ClassId) → HasVirtualBase h c v → IsListable h is_shared c (ToBase v)
  a_call : (u : ClassId) (path : List ClassId) (g : FunctionId) → IsCallOf h is_shared c u path g → IsListable h is_shared c (ToOverrider (u ∷ path) g)

-- what a base lists is listable for its class
pub lifted : (h : Classes) (s t : Bool) (c d : ClassId) (x : Offset) → ((u : ClassId) → ((s ≡ true) × (u ≡ d)) ⊎ HasVirtualBase h d u → HasVirtualBase h c u) → ((v : ClassId) → HasVirtualBase h d v → HasVirtualBase h c v) → IsListable h s d x → IsListable h t c x
lifted h s t c d _ up through (a_base v has) = a_base v (through v has)
lifted h s t c d _ up through (a_call u path g is) = a_call u path g (record { base = inr (up u is.base); leads = is.leads; ends = is.ends; declares = is.declares })

pub plain_edge : (h : Classes) (c : ClassId) (base : Base ClassId) (p : Base ClassId → Bool) → ((base : Base ClassId) → p base ≡ true → base.is_virtual ≡ false) → Item (filter p (bases_of h c)) base → IsDirectBase h c false base.class
plain_edge h c base p plain i =
    let r = from_filter p (bases_of h c) base i in
    record { base = base; listed = contains_item (bases_of h c) base r.0; class = refl; way = plain base r.1 }

not_true : (b : Bool) → not b ≡ true → b ≡ false
not_true true e = cc
not_true false e = refl

pub first_plain : (p : Primary) (base : Base ClassId) → is_nonvirtual_primary p base ≡ true → base.is_virtual ≡ false
first_plain p base e = not_true base.is_virtual (and_parts (not base.is_virtual) (is_direct_primary p base.class) e).0

pub other_plain : (p : Primary) (base : Base ClassId) → is_secondary_base p base ≡ true → base.is_virtual ≡ false
other_plain p base e = not_true base.is_virtual (and_parts (not base.is_virtual) (not (is_direct_primary p base.class)) e).0

-- the entry of a function stands among the old ones or among the new ones
listing_in : (h : Classes) (l : Places) (k : EntryKey) (old keys : List EntryKey) → Item keys k → Item (old ++ new_entries h l old keys) (or_itself k (find (shares h l k) old))
listing_in h l k old keys i = split (list_any (shares h l k) old) (λ b. list_any (shares h l k) old ≡ b → Item (old ++ new_entries h l old keys) (or_itself k (find (shares h l k) old)))
    (λ t same.
    let f = found_some (shares h l k) old same in
    let there = (found_passes (shares h l k) old f.0 f.1).0 in
    subst (λ a. Item (old ++ new_entries h l old keys) (or_itself k a)) (sym f.1) (item_left old (new_entries h l old keys) f.0 there))
    (λ t same.
    let fresh : Item (new_entries h l old keys) k = item_filter (λ x. not (list_any (shares h l x) old)) keys k i (ap not same) in
    subst (λ a. Item (old ++ new_entries h l old keys) (or_itself k a)) (sym (found_none (shares h l k) old same)) (item_right old (new_entries h l old keys) k fresh))
    refl

-- it has the name and the kind of the function
listing_named : (h : Classes) (l : Places) (k : EntryKey) (old : List EntryKey) (s : Signature) → signature_of h k.function ≡ Some s → (same_name h k.function (or_itself k (find (shares h l k) old)).function ≡ true) × ((or_itself k (find (shares h l k) old)).kind ≡ k.kind)
listing_named h l k old s e = by_find (find (shares h l k) old) refl
  where
    by_find : (o : Option EntryKey) → find (shares h l k) old ≡ o → (same_name h k.function (or_itself k o).function ≡ true) × ((or_itself k o).kind ≡ k.kind)
    by_find None is = (signature_name h k.function k.function s e e, refl)
    by_find (Some x) is =
        let passes = (found_passes (shares h l k) old x is).1 in
        let both = and_parts (same_kind k.kind x.kind) (same_name h k.function x.function && not (needs_return h l k.function x.function)) passes in
        ((and_parts (same_name h k.function x.function) (not (needs_return h l k.function x.function)) both.1).0, sym (kind_is k.kind x.kind both.0))

module _ (h : Classes) (l : Places) (keeps : IsHierarchy h) (are : ArePrimaries h l) where
  pub entries_keep : (c : ClassId) → c.0 < length h → Keeps (primary_entries (entries h l) (l.primary c)) (entries h l c)
  entries_keep c known =
      let old = primary_entries (entries h l) (l.primary c) in
      subst (λ xs. Keeps old xs) (sym (entries_is h l keeps are c known)) (keeps_front old (new_entries h l old (flat_map (keys_of h) (own h c))))

  pub listing_is_named : (k : EntryKey) (s : Signature) → signature_of h k.function ≡ Some s → (same_name h k.function (listing h l k).function ≡ true) × ((listing h l k).kind ≡ k.kind)
  listing_is_named k s e = listing_named h l k (primary_entries (entries h l) (l.primary k.function.class)) s e

  -- at the number of a function's entry stands its entry
  pub entry_there : (k : EntryKey) → k.function.class.0 < length h → Item (flat_map (keys_of h) (own h k.function.class)) k → slice_get (entries h l k.function.class) (entry_number h l k) ≡ Some (listing h l k)
  entry_there k known i =
      let old = primary_entries (entries h l) (l.primary k.function.class) in
      let there = subst (λ xs. Item xs (listing h l k)) (sym (entries_is h l keeps are k.function.class known)) (listing_in h l k old (flat_map (keys_of h) (own h k.function.class)) i) in
      let at = at_place (same_entry_key (listing h l k)) (entries h l k.function.class) (any_item (same_entry_key (listing h l k)) (entries h l k.function.class) (listing h l k) there (key_itself (listing h l k))) in
      at.there ∙ ap (λ a. Some a) (sym (key_is (listing h l k) at.item at.passes))

  -- the offsets of a primary base stand first
  pub offsets_keep : (is_shared : Bool) (c : ClassId) → c.0 < length h → Keeps (primary_offsets (offsets h l) (l.primary c)) (offsets h l is_shared c)
  offsets_keep is_shared c known =
      let old = primary_offsets (offsets h l) (l.primary c) in
      let more = push_all h old (map ToBase (virtual_bases h c)) in
      subst (λ xs. Keeps old xs) (sym (offsets_is h l keeps are is_shared c known)) (keeps_through old more (with_calls h l c is_shared more) (push_all_keeps h old (map ToBase (virtual_bases h c))) (with_calls_keeps is_shared more))
    where
      with_calls_keeps : (b : Bool) (more : List Offset) → Keeps more (with_calls h l c b more)
      with_calls_keeps false more = keeps_itself more
      with_calls_keeps true more = push_all_keeps h more (calls h l c)

  -- what a class lists as a virtual base begins with what it lists otherwise
  offsets_more : (is_shared : Bool) (c : ClassId) → c.0 < length h → Keeps (offsets h l false c) (offsets h l is_shared c)
  offsets_more false c known = keeps_itself (offsets h l false c)
  offsets_more true c known =
      let more = push_all h (primary_offsets (offsets h l) (l.primary c)) (map ToBase (virtual_bases h c)) in
      subst (λ xs. Keeps (offsets h l false c) xs) (sym (offsets_is h l keeps are true c known)) (subst (λ xs. Keeps xs (push_all h more (calls h l c))) (sym (offsets_is h l keeps are false c known)) (push_all_keeps h more (calls h l c)))

  -- at the number of a virtual base stands the offset to it
  pub vbase_there : (is_shared : Bool) (c v : ClassId) → c.0 < length h → HasVirtualBase h c v → slice_get (offsets h l is_shared c) (vbase_number h l c v) ≡ Some (ToBase v)
  vbase_there is_shared c v known has =
      let old = primary_offsets (offsets h l) (l.primary c) in
      let itself : is_base v (ToBase v) ≡ true = eq-eqb v.0 v.0 refl in
      let there : list_any (is_base v) (offsets h l false c) ≡ true = subst (λ xs. list_any (is_base v) xs ≡ true) (sym (offsets_is h l keeps are false c known))
      (push_all_has h (is_base v) old (map ToBase (virtual_bases h c)) (ToBase v) (item_map ToBase (virtual_bases h c) v (virtual_item h keeps c v has)) itself (λ z e. e)) in
      let at = at_place (is_base v) (offsets h l false c) there in
      (offsets_more is_shared c known).stays (vbase_number h l c v) (ToBase v) (at.there ∙ ap (λ a. Some a) (base_is v at.item at.passes))
