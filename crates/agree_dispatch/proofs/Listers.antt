-- An entry that a function shares is listed for one that it overrides.
use Rattle.std.proofs.Common.{◌≡◌, ℕ, zero, suc, ◌+◌, ◌<◌, ⊎_elim, Bool, true, false, Option, Some, None, [], ◌∷◌, length, refl, ap, subst, sym, ◌∙◌, arith}
use Rattle.std.specs.Prelude.{not, ◌&&◌}
use Rattle.std.specs.List.{find, list_any}
use Rattle.std.proofs.lemmas.Bool.{and_parts, not-true}
use Rattle.cxx_hierarchy.specs.declared.records.ClassId.{ClassId}
use Rattle.cxx_hierarchy.specs.Classes.{Classes}
use Rattle.cxx_hierarchy.specs.Hierarchies.{IsHierarchy}
use Rattle.cxx_hierarchy.specs.VirtualBases.{IsDirectBase, HasVirtualBase}
use Rattle.cxx_subobject.specs.Subobjects.{whole, shared, subobject, shared_base, whole_of}
use Rattle.cxx_subobject.specs.declared.Root.TheVariants.{Whole}
use Rattle.cxx_subobject.proofs.PathLemmas.{base_before, virtual_below, class_low}
use Rattle.cxx_overrider.specs.Overriding.{HasPart, IsVirtual}
use Rattle.cxx_overrider.specs.Covariance.{Overrides}
use Rattle.cxx_overrider.proofs.CovarianceLemmas.{part_part}
use Rattle.abi_primary.specs.declared.Primary.{Primary}
use Rattle.abi_primary.specs.declared.Primary.TheVariants.{None as NoPrimary, Direct, Virtual}
use Rattle.abi_sound.specs.Places.{Places}
use Rattle.abi_slots.specs.declared.words.EntryKey.{EntryKey}
use Rattle.abi_slots.specs.Listing.{same_kind, needs_return, shares, own_keys, primary_entries, new_entries, entries, or_itself, listing}
use Rattle.abi_slots.proofs.Lists.{Item, item_none, item_cases, from_filter, found_passes}
use Rattle.abi_slots.proofs.Names.{name_is}
use Rattle.abi_slots.proofs.Owns.{own_virtual}
use Rattle.abi_slots.proofs.ClassEntries.{own_key, entry_own}
use Rattle.abi_slots.proofs.Listings.{ArePrimaries, entries_is}

itself_part : (h : Classes) (c d : ClassId) → d ≡ c → HasPart h c d
itself_part h c d same = record { part = whole_of c; valid = whole [] tt; class = ap (λ a. Some a) (sym same) }

direct_part : (h : Classes) (c b : ClassId) → IsDirectBase h c false b → HasPart h c b
direct_part h c b edge = record { part = subobject Whole (c ∷ b ∷ []); valid = whole (b ∷ []) (edge, tt); class = refl }

virtual_part : (h : Classes) (c v : ClassId) → HasVirtualBase h c v → HasPart h c v
virtual_part h c v has = record { part = shared_base v; valid = shared v [] has tt; class = refl }

module _ (h : Classes) (l : Places) (keeps : IsHierarchy h) (are : ArePrimaries h l) where
  -- what a class lists is for functions of it and of its bases
  entry_part : (n : ℕ) (c : ClassId) (k : EntryKey) → c.0 < n → c.0 < length h → Item (entries h l c) k → HasPart h c k.function.class
  entry_part zero c k few known i = absurd (omega arith)
  entry_part (suc n) c k few known i =
      let old = primary_entries (entries h l) (l.primary c) in
      let here = subst (λ xs. Item xs k) (entries_is h l keeps are c known) i in
      ⊎_elim (λ a. by_primary (λ b lt low j. entry_part n b k lt low j) (l.primary c) refl a)
      (λ b. itself_part h c k.function.class (own_key h c k (from_filter (λ x. not (list_any (shares h l x) old)) (own_keys h c) k b).0).0)
      (item_cases old (new_entries h l old (own_keys h c)) k here)
    where
      by_primary : ((b : ClassId) → b.0 < n → b.0 < length h → Item (entries h l b) k → HasPart h b k.function.class) → (p : Primary) → l.primary c ≡ p → Item (primary_entries (entries h l) p) k → HasPart h c k.function.class
      by_primary below NoPrimary e a = absurd (item_none k a)
      by_primary below (Direct b) e a =
          let edge = (are.direct c b known e).0 in
          let less = base_before h keeps c b false edge in
          part_part h c b k.function.class (direct_part h c b edge) (below b (omega arith) (omega arith) a)
      by_primary below (Virtual v) e a =
          let has = (are.virtual c v known e).0 in
          let less = virtual_below h keeps c v has in
          part_part h c v k.function.class (virtual_part h c v has) (below v (omega arith) (omega arith) a)

  -- a base of a class, and its class has a smaller number
  record IsBelow (c b : ClassId) : Type 0 where
    part : HasPart h c b
    less : b.0 < c.0

  old_part : (c : ClassId) (k : EntryKey) → c.0 < length h → Item (primary_entries (entries h l) (l.primary c)) k → IsBelow c k.function.class
  old_part c k known i = by_primary (l.primary c) refl i
    where
      by_primary : (p : Primary) → l.primary c ≡ p → Item (primary_entries (entries h l) p) k → IsBelow c k.function.class
      by_primary NoPrimary e a = absurd (item_none k a)
      by_primary (Direct b) e a =
          let edge = (are.direct c b known e).0 in
          let less = base_before h keeps c b false edge in
          let part = entry_part (b.0 + 1) b k (omega arith) (omega arith) a in
          let low = class_low h keeps b k.function.class part.part part.valid part.class in
          record { part = part_part h c b k.function.class (direct_part h c b edge) part; less = omega arith }
      by_primary (Virtual v) e a =
          let has = (are.virtual c v known e).0 in
          let less = virtual_below h keeps c v has in
          let part = entry_part (v.0 + 1) v k (omega arith) (omega arith) a in
          let low = class_low h keeps v k.function.class part.part part.valid part.class in
          record { part = part_part h c v k.function.class (virtual_part h c v has) part; less = omega arith }

  old_virtual : (c : ClassId) (k : EntryKey) → Item (primary_entries (entries h l) (l.primary c)) k → IsVirtual h k.function
  old_virtual c k i = by_primary (l.primary c) i
    where
      by_primary : (p : Primary) → Item (primary_entries (entries h l) p) k → IsVirtual h k.function
      by_primary NoPrimary a = absurd (item_none k a)
      by_primary (Direct b) a = own_virtual h keeps k.function.class k.function (entry_own h l b k a).declares
      by_primary (Virtual v) a = own_virtual h keeps k.function.class k.function (entry_own h l v k a).declares

  -- the function for which an entry is listed: the key's own, or one that it overrides, where no result has to be moved
  pub data IsListed (k : EntryKey) : EntryKey → Type 0 where
    itself : IsListed k k
    shared_with : (old : EntryKey) → Overrides h k.function old.function → needs_return h l k.function old.function ≡ false → IsListed k old

  pub is_listed : (k : EntryKey) → k.function.class.0 < length h → IsVirtual h k.function → IsListed k (listing h l k)
  is_listed k known is = by_found (find (shares h l k) (primary_entries (entries h l) (l.primary k.function.class))) refl
    where
      by_found : (o : Option EntryKey) → find (shares h l k) (primary_entries (entries h l) (l.primary k.function.class)) ≡ o → IsListed k (or_itself k o)
      by_found None e = itself
      by_found (Some old) e =
          let c = k.function.class in
          let there = found_passes (shares h l k) (primary_entries (entries h l) (l.primary c)) old e in
          let kinds = and_parts (same_kind k.kind old.kind) (Rattle.cxx_overrider.specs.Virtuals.same_name h k.function old.function && not (needs_return h l k.function old.function)) there.1 in
          let names = and_parts (Rattle.cxx_overrider.specs.Virtuals.same_name h k.function old.function) (not (needs_return h l k.function old.function)) kinds.1 in
          let below = old_part c old known there.0 in
          shared_with old (record {
            signature = is.signature;
            of_f = is.is;
            of_g = sym (name_is h k.function old.function names.0) ∙ is.is;
            base = below.part;
            proper = λ same. let a = ap (λ (d : ClassId). d.0) same in let b = below.less in absurd (omega arith);
            is_virtual = old_virtual c old there.0;
          }) (not-true (needs_return h l k.function old.function) names.1)
