-- Which class of a chain declares an entry.
use Rattle.std.proofs.Common.{◌≡◌, ℕ, zero, suc, ◌+◌, ◌-◌, ◌<◌, ◌≤◌, ◌⊎◌, inl, inr, ⊎_elim, Bool, true, false, Option, Some, None, List, [], ◌∷◌, ◌++◌, length, refl, ap, subst, sym, ◌∙◌, arith}
use Rattle.std.specs.Prelude.{if◌then◌else◌, slice_get, ◌&&◌, not}
use Rattle.std.specs.List.{list_any, find}
use Rattle.std.specs.Option.{option_and_then}
use Rattle.std.proofs.lemmas.Bool.{and_parts}
use Rattle.foundation.proofs.Truth.{is_false, split}
use Rattle.cxx_hierarchy.specs.declared.records.ClassId.{ClassId}
use Rattle.cxx_hierarchy.specs.Classes.{Classes}
use Rattle.cxx_subobject.specs.declared.Subobject.{Subobject}
use Rattle.cxx_subobject.specs.Subobjects.{IsSubobject, subobject, shared_base, class_of}
use Rattle.cxx_subobject.proofs.PathLemmas.{base_before, virtual_below}
use Rattle.cxx_subobject.proofs.TestLemmas.{class_below}
use Rattle.cxx_overrider.specs.declared.FunctionId.{FunctionId}
use Rattle.cxx_overrider.specs.Functions.{signature_of}
use Rattle.abi_primary.specs.declared.Primary.{Primary}
use Rattle.abi_primary.specs.declared.Primary.TheVariants.{None as NoPrimary, Direct, Virtual}
use Rattle.abi_sound.specs.Places.{Places}
use Rattle.abi_slots.specs.declared.words.CodeKind.{CodeKind}
use Rattle.abi_slots.specs.declared.words.EntryKey.{EntryKey}
use Rattle.cxx_overrider.specs.Virtuals.{same_name, own}
use Rattle.abi_slots.specs.Listing.{entry_key, same_entry_key, kinds_in, keys_of, own_keys, shares, primary_entries, new_entries, entries_in, entries, or_itself, listing}
use Rattle.abi_slots.specs.Slots.{declared_at}
use Rattle.abi_sound.specs.Chains.{is_subobject_in}
use Rattle.abi_slots.specs.Views.{View, next_by, next_in, next, along_chain, first_in}
use Rattle.abi_slots.specs.Groups.{declares_in, declares_at}
use Rattle.abi_slots.proofs.Bases.{contains_item}
use Rattle.abi_slots.proofs.Chains.{Setting, same_some, known, next_under, walk_under}
use Rattle.abi_slots.proofs.Listings.{entries_is}
use Rattle.abi_slots.proofs.Lists.{Item, item_cases, item_any, from_filter, from_flat, from_map, found_passes, none_found}
use Rattle.abi_slots.proofs.Names.{key_is}
use Rattle.abi_slots.proofs.Owns.{own_class}
use Rattle.abi_vtable.specs.declared.view.ViewPart.{ViewPart}
use Rattle.abi_vtable.specs.declared.words.Declarer.{Declarer}
use Rattle.abi_vtable.specs.invariants.Parts.{NumbersSubobject, nothing, number}
use Rattle.abi_vtable.specs.invariants.Words.{AreAlong, IsDeclaredBy, at_part}

-- numbers and what they are of

pub number_none : (list : List Subobject) (o : Option ℕ) (s : Option Subobject) → o ≡ None → NumbersSubobject list o s → s ≡ None
number_none list _ _ e nothing = refl
number_none list _ _ e (number n s at) = cc

pub number_some : (list : List Subobject) (o : Option ℕ) (n : ℕ) (s : Option Subobject) → o ≡ Some n → NumbersSubobject list o s → (u : Subobject) × (s ≡ Some u) × (slice_get list n ≡ Some u)
number_some list _ n _ e nothing = cc
number_some list _ n _ e (number m s at) = let same : m ≡ n = cc in (s, refl, ap (slice_get list) (sym same) ∙ at)

-- the keys of a class

own_key_class : (h : Classes) (c : ClassId) (k : EntryKey) → Item (own_keys h c) k → k.function.class ≡ c
own_key_class h c k i =
    let r = from_flat (keys_of h) (own h c) k i in
    let m = from_map (entry_key r.0) (kinds_in (signature_of h r.0)) k r.2 in
    let same : r.0 ≡ k.function = ap (λ (a : EntryKey). a.function) m.2 in
    ap (λ (f : FunctionId). f.class) (sym same) ∙ own_class h c r.0 r.1

new_key_class : (h : Classes) (l : Places) (c : ClassId) (old : List EntryKey) (k : EntryKey) → Item (new_entries h l old (own_keys h c)) k → k.function.class ≡ c
new_key_class h l c old k i = own_key_class h c k (from_filter (λ (a : EntryKey). not (list_any (shares h l a) old)) (own_keys h c) k i).0

behind : {A : Type 0} (xs ys : List A) (n : ℕ) (x : A) → slice_get (xs ++ ys) n ≡ Some x → slice_get xs n ≡ None → Item ys x
behind [] ys n x e none = record { index = n; there = e }
behind (z ∷ xs) ys zero x e none = cc
behind (z ∷ xs) ys (suc n) x e none = behind xs ys n x e none

module _ (h : Classes) (l : Places) (x : View) (set : Setting h l x) where
  low_in : (n : ℕ) (c : ClassId) → c.0 < length h → (k : EntryKey) → Item (entries_in h l n c) k → k.function.class.0 ≤ c.0
  low_in zero c there k i = absurd (let e = i.there in cc)
  low_in (suc n) c there k i = ⊎_elim
      (λ old. by_primary (l.primary c) refl old (λ b small j. low_in n b small k j))
      (λ new. let e = new_key_class h l c (primary_entries (entries_in h l n) (l.primary c)) k new in subst (λ (a : ClassId). a.0 ≤ c.0) (sym e) (omega arith))
      (item_cases (primary_entries (entries_in h l n) (l.primary c)) (new_entries h l (primary_entries (entries_in h l n) (l.primary c)) (own_keys h c)) k i)
    where
      by_primary : (p : Primary) → l.primary c ≡ p → Item (primary_entries (entries_in h l n) p) k → ((b : ClassId) → b.0 < length h → Item (entries_in h l n b) k → k.function.class.0 ≤ b.0) → k.function.class.0 ≤ c.0
      by_primary NoPrimary is j low = absurd (let e = j.there in cc)
      by_primary (Direct b) is j low = let less = base_before h set.keeps c b false (set.primaries.direct c b there is).0 in let m = low b (omega arith) j in omega arith
      by_primary (Virtual v) is j low = let less = virtual_below h set.keeps c v (set.primaries.virtual c v there is).0 in let m = low v (omega arith) j in omega arith

  -- the functions for which a class lists entries are those of the class and of those before it
  pub entry_low : (c : ClassId) → c.0 < length h → (k : EntryKey) → Item (entries h l c) k → k.function.class.0 ≤ c.0
  entry_low c there k i = low_in (c.0 + 1) c there k i

  primary_low : (c : ClassId) → c.0 < length h → (k : EntryKey) → Item (primary_entries (entries h l) (l.primary c)) k → k.function.class.0 ≤ c.0
  primary_low c there k i = by_primary (l.primary c) refl i
    where
      by_primary : (p : Primary) → l.primary c ≡ p → Item (primary_entries (entries h l) p) k → k.function.class.0 ≤ c.0
      by_primary NoPrimary is j = absurd (let e = j.there in cc)
      by_primary (Direct b) is j = let less = base_before h set.keeps c b false (set.primaries.direct c b there is).0 in let m = entry_low b (omega arith) k j in omega arith
      by_primary (Virtual v) is j = let less = virtual_below h set.keeps c v (set.primaries.virtual c v there is).0 in let m = entry_low v (omega arith) k j in omega arith

  listing_low : (c : ClassId) (f : FunctionId) (kind : CodeKind) → c.0 < length h → Item (own h c) f → (listing h l (entry_key f kind)).function.class.0 ≤ c.0
  listing_low c f kind there i =
      let class = own_class h c f i in
      let at : f.class.0 < length h = subst (λ (a : ClassId). a.0 < length h) (sym class) there in
      let low = by_find f kind (find (shares h l (entry_key f kind)) (primary_entries (entries h l) (l.primary f.class))) refl at in
      subst (λ (a : ClassId). (listing h l (entry_key f kind)).function.class.0 ≤ a.0) class low
    where
      by_find : (f : FunctionId) (kind : CodeKind) (o : Option EntryKey) → find (shares h l (entry_key f kind)) (primary_entries (entries h l) (l.primary f.class)) ≡ o → f.class.0 < length h → (or_itself (entry_key f kind) o).function.class.0 ≤ f.class.0
      by_find f kind None e at = omega arith
      by_find f kind (Some k) e at = primary_low f.class at k (found_passes (shares h l (entry_key f kind)) (primary_entries (entries h l) (l.primary f.class)) k e).0

  -- a class does not declare an entry of a class behind it
  not_declared : (k : EntryKey) (d : ClassId) → d.0 < length h → d.0 < k.function.class.0 → declares_in h l k (Some d) ≡ false
  not_declared k d there less = is_false (declares_in h l k (Some d)) (λ e.
      let r = item_any (λ f. same_name h f k.function && same_entry_key (listing h l (entry_key f k.kind)) k) (own h d) e in
      let both = and_parts (same_name h r.0 k.function) (same_entry_key (listing h l (entry_key r.0 k.kind)) k) r.2 in
      let same : listing h l (entry_key r.0 k.kind) ≡ k = key_is (listing h l (entry_key r.0 k.kind)) k both.1 in
      let low = listing_low d r.0 k.kind there r.1 in
      let at : k.function.class.0 ≤ d.0 = subst (λ (a : EntryKey). a.function.class.0 ≤ d.0) same low in
      omega arith)

  -- what the next of a chain lists are the entries of the primary base
  next_entries : (s u : Subobject) (c d : ClassId) → class_of s ≡ Some c → next l x s ≡ Some u → class_of u ≡ Some d → primary_entries (entries h l) (l.primary c) ≡ entries h l d
  next_entries s u c d e goes of_u = by_primary (l.primary c) (subst (λ o. next_in l x s o ≡ Some u) e goes)
    where
      by_primary : (p : Primary) → next_by l x s p ≡ Some u → primary_entries (entries h l) p ≡ entries h l d
      by_primary NoPrimary f = cc
      by_primary (Direct b) f =
          let same : subobject s.root (s.path ++ b ∷ []) ≡ u = same_some _ u f in
          ap (entries h l) (same_some b d (sym (class_below s.path c b e) ∙ ap class_of same ∙ of_u))
      by_primary (Virtual v) f = split (is_subobject_in (l.holder x.complete v) (Rattle.abi_slots.specs.Views.seen x s)) (λ b. (if b then Some (shared_base v) else None) ≡ Some u → entries h l v ≡ entries h l d)
          (λ t g. let same : shared_base v ≡ u = same_some _ u g in ap (entries h l) (same_some v d (ap class_of same ∙ of_u)))
          (λ t g. cc) f

  -- an entry that a chain has at its start and not further down is that of a class behind it
  entry_above : (j : ℕ) (t r : Subobject) (c d : ClassId) (n : ℕ) (k : EntryKey) → IsSubobject h x.class t → class_of t ≡ Some c → class_of r ≡ Some d → along_chain (next l x) j (Some t) ≡ Some r → slice_get (entries h l c) n ≡ Some k → slice_get (entries h l d) n ≡ None → d.0 < k.function.class.0
  entry_above zero t r c d n k valid of_t of_r goes at none =
      let same : t ≡ r = same_some t r goes in
      let one : c ≡ d = same_some c d (sym of_t ∙ ap class_of same ∙ of_r) in
      absurd (let e : slice_get (entries h l d) n ≡ Some k = ap (λ a. slice_get (entries h l a) n) (sym one) ∙ at in cc)
  entry_above (suc j) t r c d n k valid of_t of_r goes at none = by_next (next l x t) refl goes (λ u b inner of_u there here. entry_above j u r b d n k inner of_u of_r there here none)
    where
      by_entry : (u : Subobject) (b : ClassId) → next l x t ≡ Some u → class_of u ≡ Some b → b.0 < c.0 → along_chain (next l x) j (Some u) ≡ Some r → IsSubobject h x.class u → (o : Option EntryKey) → slice_get (entries h l b) n ≡ o →
          (slice_get (entries h l b) n ≡ Some k → d.0 < k.function.class.0) → ((a : EntryKey) → slice_get (entries h l b) n ≡ Some a → slice_get (entries h l c) n ≡ Some a) → d.0 < k.function.class.0
      by_entry u b go of_u less there inner (Some a) e rest keep =
          let same : a ≡ k = same_some a k (sym (keep a e) ∙ at) in
          rest (e ∙ ap (λ z. Some z) same)
      by_entry u b go of_u less there inner None e rest keep =
          let old = primary_entries (entries h l) (l.primary c) in
          let k_at = known h l x set c t valid of_t in
          let first : slice_get old n ≡ None = ap (λ xs. slice_get xs n) (next_entries t u c b of_t go of_u) ∙ e in
          let new = behind old (new_entries h l old (own_keys h c)) n k (ap (λ xs. slice_get xs n) (sym (entries_is h l set.keeps set.primaries c k_at)) ∙ at) first in
          let class = new_key_class h l c old k new in
          let w = walk_under h l x set j u r inner there in
          let far = w.less b d of_u of_r in
          subst (λ (a : ClassId). d.0 < a.0) (sym class) (omega arith)

      by_next : (o : Option Subobject) → next l x t ≡ o → along_chain (next l x) j o ≡ Some r → ((u : Subobject) (b : ClassId) → IsSubobject h x.class u → class_of u ≡ Some b → along_chain (next l x) j (Some u) ≡ Some r → slice_get (entries h l b) n ≡ Some k → d.0 < k.function.class.0) → d.0 < k.function.class.0
      by_next None go there rest = absurd (let e = walk_no j in cc)
        where
          walk_no : (i : ℕ) → along_chain (next l x) i None ≡ None
          walk_no zero = refl
          walk_no (suc i) = refl
      by_next (Some u) go there rest =
          let one = next_under h l x set t u valid go in
          let under = one.under in
          let above : under.above ≡ c = same_some under.above c (sym under.of_above ∙ of_t) in
          let less : under.below.0 < c.0 = subst (λ (a : ClassId). under.below.0 < a.0) above one.less in
          by_entry u under.below go under.of_below less there under.valid_below (slice_get (entries h l under.below) n) refl
          (λ here. rest u under.below under.valid_below under.of_below there here)
          (λ a e. subst (λ b. slice_get (entries h l b) n ≡ Some a) above (under.entries.stays n a e))

  -- down the chain of a subobject with an entry: each has the entry under its number, or does not declare it
  pub all_along : (t : Subobject) (c : ClassId) (n : ℕ) (k : EntryKey) → IsSubobject h x.class t → class_of t ≡ Some c → slice_get (entries h l c) n ≡ Some k → AreAlong h l x k n (Some t)
  all_along t c n k valid of_t at = record {
    valid = λ j r goes. (walk_under h l x set j t r valid goes).under.valid_below;
    each = λ j r d goes of_r.
        let w = walk_under h l x set j t r valid goes in
        let under = w.under in
        let one : under.below ≡ d = same_some under.below d (sym under.of_below ∙ of_r) in
        let other : under.above ≡ c = same_some under.above c (sym under.of_above ∙ of_t) in
        let keep : (a : EntryKey) → slice_get (entries h l d) n ≡ Some a → slice_get (entries h l c) n ≡ Some a =
        λ a e. subst (λ b. slice_get (entries h l b) n ≡ Some a) other (under.entries.stays n a (subst (λ b. slice_get (entries h l b) n ≡ Some a) (sym one) e)) in
        by_entry r d of_r under.valid_below (slice_get (entries h l d) n) refl keep (λ none. entry_above j t r c d n k valid of_t of_r goes at none);
  }
    where
      by_entry : (r : Subobject) (d : ClassId) → class_of r ≡ Some d → IsSubobject h x.class r → (o : Option EntryKey) → slice_get (entries h l d) n ≡ o → ((a : EntryKey) → slice_get (entries h l d) n ≡ Some a → slice_get (entries h l c) n ≡ Some a) → (slice_get (entries h l d) n ≡ None → d.0 < k.function.class.0) →
          (slice_get (entries h l d) n ≡ Some k) ⊎ ((slice_get (entries h l d) n ≡ None) × (declares_at h l k r ≡ false))
      by_entry r d of_r inner (Some a) e keep far = inl (e ∙ ap (λ z. Some z) (same_some a k (sym (keep a e) ∙ at)))
      by_entry r d of_r inner None e keep far = inr (e, ap (declares_in h l k) of_r ∙ not_declared k d (known h l x set d r inner of_r) (far e))

-- one step of the search

pub along_next : (h : Classes) (l : Places) (x : View) (k : EntryKey) (n : ℕ) (u : Subobject) → AreAlong h l x k n (Some u) → AreAlong h l x k n (next l x u)
along_next h l x k n u are = record { valid = λ j r e. are.valid (suc j) r e; each = λ j r d e of_r. are.each (suc j) r d e of_r }

pub first_zero : (p : Subobject → Bool) (go : Subobject → Option Subobject) (steps : ℕ) (s : Option Subobject) → steps ≡ 0 → first_in p go steps s ≡ None
first_zero p go steps s e = ap (λ n. first_in p go n s) e

pub first_none : (p : Subobject → Bool) (go : Subobject → Option Subobject) (steps : ℕ) → first_in p go steps None ≡ None
first_none p go zero = refl
first_none p go (suc steps) = refl

pub first_here : (p : Subobject → Bool) (go : Subobject → Option Subobject) (steps : ℕ) (u : Subobject) → (steps ≡ 0 → ⊥) → p u ≡ true → first_in p go steps (Some u) ≡ Some u
first_here p go zero u some e = absurd (some refl)
first_here p go (suc steps) u some e = rw e refl

pub first_below : (p : Subobject → Bool) (go : Subobject → Option Subobject) (steps : ℕ) (u : Subobject) → (steps ≡ 0 → ⊥) → p u ≡ false → first_in p go steps (Some u) ≡ first_in p go (steps - 1) (go u)
first_below p go zero u some e = absurd (some refl)
first_below p go (suc steps) u some e = let same : suc steps - 1 ≡ steps = omega arith in rw (e, same) refl

-- the class declares a function there
pub record IsDeclared (h : Classes) (l : Places) (k : EntryKey) (u : Subobject) (d : ClassId) (f : FunctionId) : Type 0 where
  pub item : Item (own h d) f
  pub class : f.class ≡ d
  pub named : same_name h f k.function ≡ true
  pub declares : declares_at h l k u ≡ true

pub declared_some : (h : Classes) (l : Places) (x : View) (k : EntryKey) (n : ℕ) (u : Subobject) (d : ClassId) (o : Option FunctionId) (f : FunctionId) → AreAlong h l x k n (Some u) → class_of u ≡ Some d → o ≡ option_and_then (declared_at h l d) (slice_get (entries h l d) n) → o ≡ Some f → IsDeclared h l k u d f
declared_some h l x k n u d o f are of_u is some = ⊎_elim
    (λ e.
    let test = λ (g : FunctionId). same_name h g k.function && same_entry_key (listing h l (entry_key g k.kind)) k in
    let found : find test (own h d) ≡ Some f = ap (option_and_then (declared_at h l d)) (sym e) ∙ sym is ∙ some in
    let r = found_passes test (own h d) f found in
    record {
      item = r.0;
      class = own_class h d f r.0;
      named = (and_parts (same_name h f k.function) (same_entry_key (listing h l (entry_key f k.kind)) k) r.1).0;
      declares = ap (declares_in h l k) of_u ∙ Rattle.abi_slots.proofs.Lists.any_item test (own h d) f r.0 r.1;
    })
    (λ e. absurd (let none : o ≡ None = is ∙ ap (option_and_then (declared_at h l d)) e.0 in cc))
    (are.each 0 u d refl of_u)

pub declared_none : (h : Classes) (l : Places) (x : View) (k : EntryKey) (n : ℕ) (u : Subobject) (d : ClassId) (o : Option FunctionId) → AreAlong h l x k n (Some u) → class_of u ≡ Some d → o ≡ option_and_then (declared_at h l d) (slice_get (entries h l d) n) → o ≡ None → declares_at h l k u ≡ false
declared_none h l x k n u d o are of_u is none = ⊎_elim
    (λ e.
    let test = λ (g : FunctionId). same_name h g k.function && same_entry_key (listing h l (entry_key g k.kind)) k in
    ap (declares_in h l k) of_u ∙ none_found test (own h d) (ap (option_and_then (declared_at h l d)) (sym e) ∙ sym is ∙ none))
    (λ e. e.1)
    (are.each 0 u d refl of_u)

pub declared_here : (h : Classes) (l : Places) (x : View) (parts : List ViewPart) (k : EntryKey) (o : Option Subobject) (u : Subobject) (i : ℕ) (part : ViewPart) (f : FunctionId) → o ≡ Some u → slice_get parts i ≡ Some part → part.at ≡ u → IsDeclared h l k u part.class f → IsDeclaredBy h l x parts k o (Some (record { part = i; function = f }))
declared_here h l x parts k o u i part f e there same is =
    let found : Declarer = record { part = i; function = f } in
    let at : IsDeclaredBy h l x parts k (Some part.at) (Some found) = at_part found part there is.class (contains_item (own h part.class) f is.item) is.named in
    subst (λ a. IsDeclaredBy h l x parts k a (Some found)) (ap (λ a. Some a) same ∙ sym e) at
