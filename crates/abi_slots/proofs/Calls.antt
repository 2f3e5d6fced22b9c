-- The vcall list of a virtual base: it has a word for each function below it, and each word is of such a function.
use Rattle.std.proofs.Common.{◌≡◌, ℕ, zero, suc, ◌+◌, ◌<◌, inl, ⊎_elim, Bool, true, false, Some, List, [], ◌∷◌, ◌++◌, map, length, refl, ap, subst, sym, arith, append_assoc}
use Rattle.std.specs.Prelude.{not, slice_get}
use Rattle.std.specs.List.{list_any, filter}
use Rattle.std.proofs.lemmas.List.{append-nil}
use Rattle.std.proofs.lemmas.Bool.{and_from}
use Rattle.cxx_hierarchy.specs.declared.records.ClassId.{ClassId}
use Rattle.cxx_hierarchy.specs.declared.records.Base.{Base}
use Rattle.cxx_hierarchy.specs.Classes.{Classes, bases_of}
use Rattle.cxx_hierarchy.specs.Hierarchies.{IsHierarchy}
use Rattle.cxx_hierarchy.specs.VirtualBases.{IsDirectBase, HasVirtualBase, further}
use Rattle.cxx_subobject.specs.Subobjects.{Leads, last_of}
use Rattle.cxx_subobject.proofs.PathLemmas.{base_before, virtual_below, virtual_through, leads_more, last_append}
use Rattle.cxx_overrider.specs.declared.FunctionId.{FunctionId}
use Rattle.abi_primary.specs.declared.Primary.{Primary}
use Rattle.abi_primary.specs.declared.Primary.TheVariants.{None as NoPrimary, Direct, Virtual}
use Rattle.abi_sound.specs.Places.{Places}
use Rattle.abi_slots.specs.declared.words.Offset.{Offset}
use Rattle.abi_slots.specs.declared.words.Offset.TheVariants.{ToBase, ToOverrider}
use Rattle.cxx_overrider.specs.Virtuals.{same_name, own}
use Rattle.cxx_subobject.specs.VirtualBases.{virtual_bases}
use Rattle.abi_primary.specs.PrimaryBase.{is_direct_primary}
use Rattle.abi_slots.specs.Listing.{vcall_number, is_offset_of_name, is_nonvirtual_primary, is_secondary_base, below_bases, call, calls_in, calls, with_calls, push_all, primary_offsets, offsets_in, offsets}
use Rattle.abi_slots.proofs.Lists.{Item, item_left, item_right, item_cases, item_map, from_map, item_flat, from_flat, item_filter, at_place}
use Rattle.abi_slots.proofs.Names.{name_through}
use Rattle.abi_slots.proofs.Bases.{item_contains, item_virtual}
use Rattle.abi_slots.proofs.Owns.{own_class}
use Rattle.abi_slots.proofs.Listings.{ArePrimaries, IsCallOf, IsListable, a_base, a_call, lifted, plain_edge, first_plain, other_plain, push_all_item, push_all_has, offsets_is}
use Rattle.foundation.proofs.Truth.{split}

-- an own function of the class at the end of a path
pub data IsCallAt (h : Classes) (v : ClassId) : Offset → Type 0 where
  call_at : (path : List ClassId) (g : FunctionId) → Leads h v path → last_of v path ≡ g.class → Item (own h g.class) g → IsCallAt h v (ToOverrider (v ∷ path) g)

call_down : (h : Classes) (l : Places) (v : ClassId) (path : List ClassId) (n : ℕ) (c : ClassId) (p : Base ClassId → Bool) → ((base : Base ClassId) → p base ≡ true → base.is_virtual ≡ false) → Leads h v path → last_of v path ≡ c
    → ((more : List ClassId) → Leads h v more → (x : Offset) → Item (calls_in h l n (v ∷ more) (last_of v more)) x → IsCallAt h v x) → (x : Offset) → Item (below_bases (calls_in h l n) (v ∷ path) (filter p (bases_of h c))) x → IsCallAt h v x
call_down h l v path n c p plain leads ends each x i =
    let r = from_flat (λ (base : Base ClassId). calls_in h l n ((v ∷ path) ++ base.class ∷ []) base.class) (filter p (bases_of h c)) x i in
    let b = r.0.class in
    let edge = plain_edge h c r.0 p plain r.1 in
    let one : Leads h (last_of v path) (b ∷ []) = (subst (λ a. IsDirectBase h a false b) (sym ends) edge, tt) in
    let last : last_of v (path ++ b ∷ []) ≡ b = last_append v path (b ∷ []) in
    each (path ++ b ∷ []) (leads_more h v path (b ∷ []) leads one) x (subst (λ a. Item (calls_in h l n (v ∷ (path ++ b ∷ [])) a) x) (sym last) r.2)

pub each_call : (h : Classes) (l : Places) (v : ClassId) (n : ℕ) (path : List ClassId) → Leads h v path → (x : Offset) → Item (calls_in h l n (v ∷ path) (last_of v path)) x → IsCallAt h v x
each_call h l v zero path leads x i = absurd (let e = i.there in cc)
each_call h l v (suc n) path leads x i =
    let c = last_of v path in
    let each = λ (more : List ClassId) (to : Leads h v more) (y : Offset) (j : Item (calls_in h l n (v ∷ more) (last_of v more)) y). each_call h l v n more to y j in
    let first = below_bases (calls_in h l n) (v ∷ path) (filter (is_nonvirtual_primary (l.primary c)) (bases_of h c)) in
    let other = below_bases (calls_in h l n) (v ∷ path) (filter (is_secondary_base (l.primary c)) (bases_of h c)) in
    ⊎_elim
    (λ a. ⊎_elim
    (λ b. call_down h l v path n c (is_nonvirtual_primary (l.primary c)) (first_plain (l.primary c)) leads refl each x b)
    (λ b.
    let r = from_map (call (v ∷ path)) (own h c) x b in
    let class = own_class h c r.0 r.1 in
    subst (λ y. IsCallAt h v y) r.2 (call_at path r.0 leads (sym class) (subst (λ a. Item (own h a) r.0) (sym class) r.1)))
    (item_cases first (map (call (v ∷ path)) (own h c)) x a))
    (λ b. call_down h l v path n c (is_secondary_base (l.primary c)) (other_plain (l.primary c)) leads refl each x b)
    (item_cases (first ++ map (call (v ∷ path)) (own h c)) other x i)

-- a function that the class at the end of a path declares has its word
call_below : (h : Classes) (l : Places) → IsHierarchy h → (n : ℕ) (path : List ClassId) (c : ClassId) (q : List ClassId) (g : FunctionId) → c.0 < n → Leads h c q → Item (own h (last_of c q)) g → Item (calls_in h l n path c) (ToOverrider (path ++ q) g)
call_below h l keeps zero path c q g lt leads i = absurd (omega arith)
call_below h l keeps (suc n) path c [] g lt leads i =
    let first = below_bases (calls_in h l n) path (filter (is_nonvirtual_primary (l.primary c)) (bases_of h c)) in
    let other = below_bases (calls_in h l n) path (filter (is_secondary_base (l.primary c)) (bases_of h c)) in
    subst (λ p. Item (calls_in h l (suc n) path c) (ToOverrider p g)) (sym (append-nil path))
    (item_left (first ++ map (call path) (own h c)) other (ToOverrider path g) (item_right first (map (call path) (own h c)) (ToOverrider path g) (item_map (call path) (own h c) g i)))
call_below h l keeps (suc n) path c (b ∷ q) g lt leads i =
    let edge = leads.0 in
    let less : b.0 < c.0 = base_before h keeps c b false edge in
    let below = call_below h l keeps n (path ++ b ∷ []) b q g (omega arith) leads.1 i in
    let same : (path ++ b ∷ []) ++ q ≡ path ++ (b ∷ q) = append_assoc path (b ∷ []) q in
    let there : Item (calls_in h l n (path ++ edge.base.class ∷ []) edge.base.class) (ToOverrider (path ++ (b ∷ q)) g) =
    subst (λ a. Item (calls_in h l n (path ++ a ∷ []) a) (ToOverrider (path ++ (b ∷ q)) g)) (sym edge.class) (subst (λ p. Item (calls_in h l n (path ++ b ∷ []) b) (ToOverrider p g)) same below) in
    let listed = item_contains (bases_of h c) edge.base edge.listed in
    let goes = λ (base : Base ClassId). calls_in h l n (path ++ base.class ∷ []) base.class in
    let first = below_bases (calls_in h l n) path (filter (is_nonvirtual_primary (l.primary c)) (bases_of h c)) in
    let other = below_bases (calls_in h l n) path (filter (is_secondary_base (l.primary c)) (bases_of h c)) in
    let plain : not edge.base.is_virtual ≡ true = ap not edge.way in
    split (is_direct_primary (l.primary c) edge.base.class) (λ t. is_direct_primary (l.primary c) edge.base.class ≡ t → Item (calls_in h l (suc n) path c) (ToOverrider (path ++ (b ∷ q)) g))
    (λ t same.
    item_left (first ++ map (call path) (own h c)) other _ (item_left first (map (call path) (own h c)) _
    (item_flat goes (filter (is_nonvirtual_primary (l.primary c)) (bases_of h c)) edge.base _ (item_filter (is_nonvirtual_primary (l.primary c)) (bases_of h c) edge.base listed (and_from (not edge.base.is_virtual) (is_direct_primary (l.primary c) edge.base.class) plain same)) there)))
    (λ t same.
    item_right (first ++ map (call path) (own h c)) other _
    (item_flat goes (filter (is_secondary_base (l.primary c)) (bases_of h c)) edge.base _ (item_filter (is_secondary_base (l.primary c)) (bases_of h c) edge.base listed (and_from (not edge.base.is_virtual) (not (is_direct_primary (l.primary c) edge.base.class)) plain (ap not same))) there))
    refl

-- at the number of a function's vcall word stands the offset of a function of its name
pub record HasCall (h : Classes) (l : Places) (v : ClassId) (f : FunctionId) : Type 0 where
  pub base : ClassId
  pub path : List ClassId
  pub function : FunctionId
  pub there : slice_get (offsets h l true v) (vcall_number h l v f) ≡ Some (ToOverrider (base ∷ path) function)
  pub named : same_name h f function ≡ true
  pub of : IsCallOf h true v base path function

module _ (h : Classes) (l : Places) (keeps : IsHierarchy h) (are : ArePrimaries h l) where
  from_calls : (c : ClassId) (x : Offset) → IsCallAt h c x → IsListable h true c x
  from_calls c _ (call_at path g leads ends i) = a_call c path g (record { base = inl (refl, refl); leads = leads; ends = ends; declares = i })

  from_bases : (is_shared : Bool) (c : ClassId) (x : Offset) → Item (map ToBase (virtual_bases h c)) x → IsListable h is_shared c x
  from_bases is_shared c x i = let r = from_map ToBase (virtual_bases h c) x i in subst (λ y. IsListable h is_shared c y) r.2 (a_base r.0 (item_virtual h keeps c r.0 r.1))

  from_primary : (is_shared : Bool) (c : ClassId) → c.0 < length h → (n : ℕ) → ((s : Bool) (d : ClassId) → d.0 < c.0 → (x : Offset) → Item (offsets_in h l n s d) x → IsListable h s d x) → (x : Offset) → Item (primary_offsets (offsets_in h l n) (l.primary c)) x → IsListable h is_shared c x
  from_primary is_shared c known n each x = by_primary (l.primary c) refl
    where
      by_primary : (p : Primary) → l.primary c ≡ p → Item (primary_offsets (offsets_in h l n) p) x → IsListable h is_shared c x
      by_primary NoPrimary e i = absurd (let f = i.there in cc)
      by_primary (Direct d) e i =
          let edge = (are.direct c d known e).0 in
          lifted h false is_shared c d x (λ u at. ⊎_elim (λ k. absurd (let g = k.0 in cc)) (λ has. further c d u false edge has) at) (λ v has. further c d v false edge has)
          (each false d (base_before h keeps c d false edge) x i)
      by_primary (Virtual v) e i =
          let base = (are.virtual c v known e).0 in
          lifted h true is_shared c v x (λ u at. ⊎_elim (λ k. subst (λ a. HasVirtualBase h c a) (sym k.1) base) (λ has. virtual_through h c v u base has) at) (λ u has. virtual_through h c v u base has)
          (each true v (virtual_below h keeps c v base) x i)

  each_in : (n : ℕ) (is_shared : Bool) (c : ClassId) → c.0 < length h → (x : Offset) → Item (offsets_in h l n is_shared c) x → IsListable h is_shared c x
  each_in zero is_shared c known x i = absurd (let f = i.there in cc)
  each_in (suc n) is_shared c known x i = by_shared is_shared i
      (λ (s : Bool) (b : Bool) (j : Item (push_all h (primary_offsets (offsets_in h l n) (l.primary c)) (map ToBase (virtual_bases h c))) x).
      ⊎_elim (λ k. from_primary b c known n (λ t d lt y m. each_in n t d (omega arith) y m) x k) (λ k. from_bases b c x k) (push_all_item h (primary_offsets (offsets_in h l n) (l.primary c)) (map ToBase (virtual_bases h c)) x j))
    where
      by_shared : (b : Bool) → Item (with_calls h l c b (push_all h (primary_offsets (offsets_in h l n) (l.primary c)) (map ToBase (virtual_bases h c)))) x → (Bool → (b : Bool) → Item (push_all h (primary_offsets (offsets_in h l n) (l.primary c)) (map ToBase (virtual_bases h c))) x → IsListable h b c x) → IsListable h b c x
      by_shared false i old = old false false i
      by_shared true i old = ⊎_elim (λ j. old true true j) (λ j. from_calls c x (each_call h l c (c.0 + 1) [] tt x j)) (push_all_item h (push_all h (primary_offsets (offsets_in h l n) (l.primary c)) (map ToBase (virtual_bases h c))) (calls h l c) x i)

  -- each offset of a class is to a virtual base, or for a function below one
  pub each_listable : (is_shared : Bool) (c : ClassId) → c.0 < length h → (x : Offset) → Item (offsets h l is_shared c) x → IsListable h is_shared c x
  each_listable is_shared c known x i = each_in (c.0 + 1) is_shared c known x i

  call_of : (v : ClassId) (f : FunctionId) (i : ℕ) (x : Offset) → IsListable h true v x → slice_get (offsets h l true v) (vcall_number h l v f) ≡ Some x → is_offset_of_name h f x ≡ true → HasCall h l v f
  call_of v f i _ (a_base u has) at named = cc
  call_of v f i _ (a_call u path g is) at named = record { base = u; path = path; function = g; there = at; named = named; of = is }

  pub vcall_there : (v : ClassId) (path : List ClassId) (f g : FunctionId) → v.0 < length h → Leads h v path → last_of v path ≡ g.class → Item (own h g.class) g → same_name h f g ≡ true → HasCall h l v f
  vcall_there v path f g known leads ends declares named =
      let more = push_all h (primary_offsets (offsets h l) (l.primary v)) (map ToBase (virtual_bases h v)) in
      let called : Item (calls h l v) (ToOverrider (v ∷ path) g) = call_below h l keeps (v.0 + 1) (v ∷ []) v path g (omega arith) leads (subst (λ a. Item (own h a) g) (sym ends) declares) in
      let there : list_any (is_offset_of_name h f) (offsets h l true v) ≡ true = subst (λ xs. list_any (is_offset_of_name h f) xs ≡ true) (sym (offsets_is h l keeps are true v known)) (push_all_has h (is_offset_of_name h f) more (calls h l v) (ToOverrider (v ∷ path) g) called named (λ z e. closed z e)) in
      let at = at_place (is_offset_of_name h f) (offsets h l true v) there in
      call_of v f 0 at.item (each_listable true v known at.item (record { index = vcall_number h l v f; there = at.there })) at.there at.passes
    where
      closed : (z : Offset) → is_offset_of_name h g z ≡ true → is_offset_of_name h f z ≡ true
      closed (ToBase u) e = cc
      closed (ToOverrider more k) e = name_through h f g k named e
