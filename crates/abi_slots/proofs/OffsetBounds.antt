-- No class and no name stands twice among the offsets of a class, so that there are few.
use Rattle.std.proofs.Common.{◌≡◌, ℕ, zero, suc, ◌+◌, ◌*◌, ◌<◌, ◌≤◌, ⊎_elim, Bool, true, false, List, [], ◌∷◌, ◌++◌, map, length, refl, ap, subst, sym, ◌∙◌, arith}
use Rattle.std.specs.Prelude.{nat_eq, if◌then◌else◌}
use Rattle.std.specs.List.{list_any, IsDistinct}
use Rattle.std.proofs.lemmas.Bool.{eq-eqb, eqb-true}
use Rattle.std.proofs.lemmas.List.{length-map, map-append}
use Rattle.std.specs.Cmp.{nat_eq_equiv}
use Rattle.std.proofs.lemmas.Map.Keys.{IsDistinct-push, IsDistinct-from_apart}
use Rattle.std.proofs.lemmas.Map.Steps.{length-le_from_distinct_below}
use Rattle.cxx_hierarchy.specs.declared.records.ClassId.{ClassId}
use Rattle.cxx_hierarchy.specs.Classes.{Classes}
use Rattle.cxx_hierarchy.specs.Hierarchies.{IsHierarchy}
use Rattle.cxx_subobject.specs.VirtualBases.{virtual_bases}
use Rattle.cxx_subobject.proofs.PathLemmas.{base_before, virtual_below, same_id}
use Rattle.cxx_overrider.specs.declared.FunctionId.{FunctionId}
use Rattle.abi_primary.specs.declared.Primary.{Primary}
use Rattle.abi_primary.specs.declared.Primary.TheVariants.{None as NoPrimary, Direct, Virtual}
use Rattle.abi_sound.specs.Places.{Places}
use Rattle.abi_slots.specs.declared.words.Offset.{Offset}
use Rattle.abi_slots.specs.declared.words.Offset.TheVariants.{ToBase, ToOverrider}
use Rattle.abi_slots.specs.Limits.{most_offsets}
use Rattle.cxx_overrider.specs.Virtuals.{same_name, own}
use Rattle.abi_slots.specs.Listing.{same_offset, push_new, push_all, calls, with_calls, primary_offsets, offsets_in, offsets}
use Rattle.abi_slots.proofs.Lists.{Item, item_first, item_later, item_none, item_split, item_cases, from_map, any_item, item_any}
use Rattle.abi_slots.proofs.Bases.{item_virtual}
use Rattle.abi_slots.proofs.Owns.{own_virtual}
use Rattle.abi_slots.proofs.Listings.{ArePrimaries}
use Rattle.abi_slots.proofs.Calls.{IsCallAt, call_at, each_call}
use Rattle.abi_slots.proofs.Bounds.{function_bounds}
use Rattle.foundation.proofs.Truth.{split}
use Rattle.cxx_search.proofs.Names.{signature_name}

-- it leads to a class of the hierarchy, or is for a virtual function that a class declares
pub data IsKnownOffset (h : Classes) : Offset → Type 0 where
  known_base : (v : ClassId) → v.0 < length h → IsKnownOffset h (ToBase v)
  known_call : (path : List ClassId) (g : FunctionId) → Item (own h g.class) g → IsKnownOffset h (ToOverrider path g)

-- a number for each class and each function
code : Offset → ℕ
code (ToBase v) = v.0
code (ToOverrider path g) = 1024 + (g.class.0 * 1025 + g.index)

record IsSmall (h : Classes) (g : FunctionId) : Type 0 where
  class : g.class.0 < 1024
  index : g.index ≤ 1024
  same : same_name h g g ≡ true

small : (h : Classes) → IsHierarchy h → (g : FunctionId) → Item (own h g.class) g → IsSmall h g
small h keeps g i =
    let virtual = own_virtual h keeps g.class g i in
    let bounds = function_bounds h keeps g virtual.signature virtual.is in
    let few = keeps.few in
    record { class = let a = bounds.0 in omega arith; index = bounds.1; same = signature_name h g g virtual.signature virtual.is virtual.is }

code_below : (h : Classes) → IsHierarchy h → (x : Offset) → IsKnownOffset h x → code x < most_offsets
unfolding code
code_below h keeps _ (known_base v lt) = let few = keeps.few in omega arith
code_below h keeps _ (known_call path g i) = let s = small h keeps g i in let a = s.class in let b = s.index in omega arith

same_code : (h : Classes) → IsHierarchy h → (x y : Offset) → IsKnownOffset h x → IsKnownOffset h y → code x ≡ code y → same_offset h x y ≡ true
unfolding code
same_code h keeps _ _ (known_base v lt) (known_base u less) e = eq-eqb v.0 u.0 e
same_code h keeps _ _ (known_base v lt) (known_call path g i) e = absurd (let few = keeps.few in omega arith)
same_code h keeps _ _ (known_call path g i) (known_base v lt) e = absurd (let few = keeps.few in omega arith)
same_code h keeps _ _ (known_call path g i) (known_call more f j) e =
    let s = small h keeps g i in
    let t = small h keeps f j in
    let a = s.class in
    let b = s.index in
    let c = t.class in
    let d = t.index in
    let class : g.class.0 ≡ f.class.0 = omega arith in
    let index : g.index ≡ f.index = omega arith in
    let make : ClassId → ℕ → FunctionId = λ x n. record { class = x; index = n } in
    let one : make g.class g.index ≡ make f.class f.index = ap (λ x. make x g.index) (same_id g.class f.class class) ∙ ap (make f.class) index in
    ap (same_name h g) (sym one) ∙ s.same

-- no two lead to one class or are for one function
record IsFair (h : Classes) (xs : List Offset) : Type 0 where
  distinct : IsDistinct nat_eq (map code xs)
  known : (x : Offset) → Item xs x → IsKnownOffset h x

fair_none : (h : Classes) → IsFair h []
fair_none h = record { distinct = IsDistinct-from_apart nat_eq [] (λ i j d lt in_list. absurd (omega arith)); known = λ x i. absurd (item_none x i) }

not_coded : (h : Classes) → IsHierarchy h → (xs : List Offset) (x : Offset) → IsFair h xs → IsKnownOffset h x → list_any (same_offset h x) xs ≡ false → list_any (nat_eq (code x)) (map code xs) ≡ false
not_coded h keeps xs x fair known none = split (list_any (nat_eq (code x)) (map code xs)) (λ b. list_any (nat_eq (code x)) (map code xs) ≡ b → b ≡ false)
    (λ t same. absurd
    (let r = item_any (nat_eq (code x)) (map code xs) same in
    let y = from_map code xs r.0 r.1 in
    let e : code x ≡ code y.0 = eqb-true (code x) r.0 r.2 ∙ sym y.2 in
    let there = any_item (same_offset h x) xs y.0 y.1 (same_code h keeps x y.0 known (fair.known y.0 y.1) e) in
    cc))
    (λ t same. refl)
    refl

push_fair : (h : Classes) → IsHierarchy h → (xs : List Offset) (x : Offset) → IsFair h xs → IsKnownOffset h x → IsFair h (push_new h xs x)
push_fair h keeps xs x fair known = split (list_any (same_offset h x) xs) (λ b. list_any (same_offset h x) xs ≡ b → IsFair h (if b then xs else xs ++ x ∷ []))
    (λ t same. fair)
    (λ t same. record {
      distinct = subst (λ ns. IsDistinct nat_eq ns) (sym (map-append code xs (x ∷ []))) (IsDistinct-push nat_eq_equiv (map code xs) (code x) fair.distinct (not_coded h keeps xs x fair known same));
      known = λ y i. ⊎_elim (λ a. fair.known y a) (λ b. ⊎_elim (λ e. subst (λ z. IsKnownOffset h z) e known) (λ n. absurd (item_none y n)) (item_split x [] y b)) (item_cases xs (x ∷ []) y i);
    })
    refl

all_fair : (h : Classes) → IsHierarchy h → (old xs : List Offset) → IsFair h old → ((x : Offset) → Item xs x → IsKnownOffset h x) → IsFair h (push_all h old xs)
all_fair h keeps old [] fair known = fair
all_fair h keeps old (x ∷ xs) fair known = all_fair h keeps (push_new h old x) xs (push_fair h keeps old x fair (known x (item_first x xs))) (λ y i. known y (item_later x xs y i))

few_fair : (h : Classes) → IsHierarchy h → (xs : List Offset) → IsFair h xs → length xs ≤ most_offsets
few_fair h keeps xs fair =
    let few = length-le_from_distinct_below (map code xs) most_offsets fair.distinct
    (λ q any.
    let r = item_any (nat_eq q) (map code xs) any in
    let y = from_map code xs r.0 r.1 in
    let below = code_below h keeps y.0 (fair.known y.0 y.1) in
    let e : code y.0 ≡ q = y.2 ∙ sym (eqb-true q r.0 r.2) in
    subst (λ n. n < most_offsets) e below) in
    let mapped = length-map xs code in
    omega arith

call_is_known : (h : Classes) (c : ClassId) (x : Offset) → IsCallAt h c x → IsKnownOffset h x
call_is_known h c _ (call_at path g leads ends i) = known_call (c ∷ path) g i

module _ (h : Classes) (l : Places) (keeps : IsHierarchy h) (are : ArePrimaries h l) where
  primary_fair : (f : Bool → ClassId → List Offset) (c : ClassId) → c.0 < length h → ((s : Bool) (d : ClassId) → d.0 < length h → IsFair h (f s d)) → (p : Primary) → l.primary c ≡ p → IsFair h (primary_offsets f p)
  primary_fair f c known each NoPrimary e = fair_none h
  primary_fair f c known each (Direct b) e = let below = base_before h keeps c b false (are.direct c b known e).0 in each false b (omega arith)
  primary_fair f c known each (Virtual v) e = let below = virtual_below h keeps c v (are.virtual c v known e).0 in each true v (omega arith)

  base_is_known : (c : ClassId) → c.0 < length h → (x : Offset) → Item (map ToBase (virtual_bases h c)) x → IsKnownOffset h x
  base_is_known c known x i =
      let r = from_map ToBase (virtual_bases h c) x i in
      let below = virtual_below h keeps c r.0 (item_virtual h keeps c r.0 r.1) in
      subst (λ y. IsKnownOffset h y) r.2 (known_base r.0 (omega arith))

  with_calls_fair : (s : Bool) (c : ClassId) (old : List Offset) → IsFair h old → IsFair h (with_calls h l c s old)
  with_calls_fair false c old fair = fair
  with_calls_fair true c old fair = all_fair h keeps old (calls h l c) fair (λ x i. call_is_known h c x (each_call h l c (c.0 + 1) [] tt x i))

  fair_in : (n : ℕ) (s : Bool) (c : ClassId) → c.0 < length h → IsFair h (offsets_in h l n s c)
  fair_in zero s c known = fair_none h
  fair_in (suc n) s c known =
      let old = primary_offsets (offsets_in h l n) (l.primary c) in
      with_calls_fair s c (push_all h old (map ToBase (virtual_bases h c)))
      (all_fair h keeps old (map ToBase (virtual_bases h c)) (primary_fair (offsets_in h l n) c known (λ t d lt. fair_in n t d lt) (l.primary c) refl) (λ x i. base_is_known c known x i))

  -- the offsets of a class are few
  pub few_offsets : (s : Bool) (c : ClassId) → c.0 < length h → length (offsets h l s c) ≤ most_offsets
  few_offsets s c known = few_fair h keeps (offsets h l s c) (fair_in (c.0 + 1) s c known)
