-- The entry of a deleting destructor stands behind that of the complete one, in the tables of each class (Itanium C++ ABI 2.5.2).
use Rattle.std.proofs.Common.{◌≡◌, ℕ, zero, suc, ◌+◌, ◌<◌, Bool, true, false, Option, Some, None, List, [], ◌∷◌, ◌++◌, map, length, refl, ap, subst, sym, ◌∙◌, arith}
use Rattle.std.specs.Prelude.{◌&&◌, ◌||◌, not, if◌then◌else◌, slice_get, Contains}
use Rattle.std.specs.List.{list_any, find, flat_map}
use Rattle.foundation.proofs.Truth.{split}
use Rattle.foundation.proofs.Members.{index_of, has_from_contains, contains_from_has}
use Rattle.cxx_hierarchy.specs.declared.records.ClassId.{ClassId}
use Rattle.cxx_hierarchy.specs.Classes.{Classes}
use Rattle.cxx_hierarchy.specs.Hierarchies.{IsHierarchy}
use Rattle.cxx_overrider.specs.declared.FunctionId.{FunctionId}
use Rattle.cxx_overrider.specs.Functions.{Signature, named, destructor, signature_of, same_function}
use Rattle.cxx_overrider.specs.Virtuals.{same_name, own, is_virtual}
use Rattle.cxx_search.specs.Searches.{destructor_of}
use Rattle.cxx_search.proofs.Bases.{destructor_signature}
use Rattle.cxx_search.proofs.Virtuals.{virtual_own, test_virtual}
use Rattle.abi_primary.specs.declared.Primary.{Primary}
use Rattle.abi_primary.specs.declared.Primary.TheVariants.{None as NoPrimary, Direct, Virtual}
use Rattle.abi_sound.specs.declared.class_layout.ClassLayout.{ClassLayout}
use Rattle.abi_sound.specs.Places.{Places, places_of}
use Rattle.abi_sound.specs.Sound.{IsSoundLayout}
use Rattle.abi_slots.specs.declared.words.CodeKind.TheVariants.{Plain, Complete, Deleting}
use Rattle.abi_slots.specs.declared.words.EntryKey.{EntryKey}
use Rattle.abi_slots.specs.Listing.{entry_key, kinds_in, keys_of, own_keys, needs_return, shares, same_entry_key, or_itself, listing, first_position, entry_number, primary_entries, new_entries, entries_in, entries}
use Rattle.abi_slots.specs.Slots.{first_kind, first_key}
use Rattle.abi_slots.proofs.Lists.{Item, item_flat, any_item}
use Rattle.abi_slots.proofs.Names.{key_itself}
use Rattle.abi_slots.proofs.Listings.{ArePrimaries, entry_there}

-- the keys stand one by one, but those of a destructor in pairs, the complete one first
pub data AreBlocks : List EntryKey → Type 0 where
  no_block : AreBlocks []
  plain_block : (f : FunctionId) (rest : List EntryKey) → AreBlocks rest → AreBlocks (entry_key f Plain ∷ rest)
  end_block : (f : FunctionId) (rest : List EntryKey) → AreBlocks rest → AreBlocks (entry_key f Complete ∷ entry_key f Deleting ∷ rest)

blocks_join : (xs ys : List EntryKey) → AreBlocks xs → AreBlocks ys → AreBlocks (xs ++ ys)
blocks_join xs ys no_block b = b
blocks_join xs ys (plain_block f rest a) b = plain_block f (rest ++ ys) (blocks_join rest ys a b)
blocks_join xs ys (end_block f rest a) b = end_block f (rest ++ ys) (blocks_join rest ys a b)

kinds_blocks : (f : FunctionId) (s : Option Signature) → AreBlocks (map (entry_key f) (kinds_in s))
kinds_blocks f None = no_block
kinds_blocks f (Some (named n types)) = plain_block f [] no_block
kinds_blocks f (Some destructor) = end_block f [] no_block

keys_blocks : (h : Classes) (fs : List FunctionId) → AreBlocks (flat_map (keys_of h) fs)
keys_blocks h [] = no_block
keys_blocks h (f ∷ fs) = blocks_join (keys_of h f) (flat_map (keys_of h) fs) (kinds_blocks f (signature_of h f)) (keys_blocks h fs)

-- the two entries of a destructor are shared alike
same_shared : (h : Classes) (l : Places) (f : FunctionId) (old : List EntryKey) → AreBlocks old → list_any (shares h l (entry_key f Complete)) old ≡ list_any (shares h l (entry_key f Deleting)) old
same_shared h l f old no_block = refl
same_shared h l f old (plain_block g rest b) = same_shared h l f rest b
same_shared h l f old (end_block g rest b) = ap (λ t. (same_name h f g && not (needs_return h l f g)) || t) (same_shared h l f rest b)

new_blocks : (h : Classes) (l : Places) (old keys : List EntryKey) → AreBlocks old → AreBlocks keys → AreBlocks (new_entries h l old keys)
new_blocks h l old keys a no_block = no_block
new_blocks h l old keys a (plain_block f rest b) =
    let more = new_blocks h l old rest a b in
    split (not (list_any (shares h l (entry_key f Plain)) old)) (λ t. AreBlocks (if t then entry_key f Plain ∷ new_entries h l old rest else new_entries h l old rest))
    (λ t. plain_block f (new_entries h l old rest) more) (λ t. more)
new_blocks h l old keys a (end_block f rest b) =
    let more = new_blocks h l old rest a b in
    subst (λ (t : Bool). AreBlocks (if not (list_any (shares h l (entry_key f Complete)) old) then entry_key f Complete ∷ (if not t then entry_key f Deleting ∷ new_entries h l old rest else new_entries h l old rest) else (if not t then entry_key f Deleting ∷ new_entries h l old rest else new_entries h l old rest)))
    (same_shared h l f old a)
    (split (not (list_any (shares h l (entry_key f Complete)) old)) (λ t. AreBlocks (if t then entry_key f Complete ∷ (if t then entry_key f Deleting ∷ new_entries h l old rest else new_entries h l old rest) else (if t then entry_key f Deleting ∷ new_entries h l old rest else new_entries h l old rest)))
    (λ t. end_block f (new_entries h l old rest) more) (λ t. more))

-- the entries of each class are so
before_blocks : (entries : ClassId → List EntryKey) → ((c : ClassId) → AreBlocks (entries c)) → (p : Primary) → AreBlocks (primary_entries entries p)
before_blocks entries each NoPrimary = no_block
before_blocks entries each (Direct b) = each b
before_blocks entries each (Virtual v) = each v

entries_blocks : (h : Classes) (l : Places) (n : ℕ) (c : ClassId) → AreBlocks (entries_in h l n c)
entries_blocks h l zero c = no_block
entries_blocks h l (suc n) c =
    let old = primary_entries (entries_in h l n) (l.primary c) in
    let before = before_blocks (entries_in h l n) (λ b. entries_blocks h l n b) (l.primary c) in
    blocks_join old (new_entries h l old (own_keys h c)) before (new_blocks h l old (own_keys h c) before (keys_blocks h (own h c)))

-- the two entries that a destructor has are those of one function
pub data Twins : EntryKey → EntryKey → Type 0 where
  twins : (g : FunctionId) → Twins (entry_key g Complete) (entry_key g Deleting)

found_twins : (h : Classes) (l : Places) (f : FunctionId) (old : List EntryKey) → AreBlocks old → Twins (or_itself (entry_key f Complete) (find (shares h l (entry_key f Complete)) old)) (or_itself (entry_key f Deleting) (find (shares h l (entry_key f Deleting)) old))
found_twins h l f old no_block = twins f
found_twins h l f old (plain_block g rest b) = found_twins h l f rest b
found_twins h l f old (end_block g rest b) =
    split (same_name h f g && not (needs_return h l f g))
    (λ t. Twins (or_itself (entry_key f Complete) (if t then Some (entry_key g Complete) else find (shares h l (entry_key f Complete)) rest)) (or_itself (entry_key f Deleting) (if t then Some (entry_key g Deleting) else find (shares h l (entry_key f Deleting)) rest)))
    (λ t. twins g) (λ t. found_twins h l f rest b)

-- where the complete one is listed the deleting one stands next
next_place : (g : FunctionId) (all : List EntryKey) → AreBlocks all → list_any (same_entry_key (entry_key g Complete)) all ≡ true → first_position (same_entry_key (entry_key g Deleting)) all ≡ first_position (same_entry_key (entry_key g Complete)) all + 1
next_place g all no_block is = cc
next_place g all (plain_block f rest b) is =
    split (same_function g f) (λ t. list_any (same_entry_key (entry_key g Complete)) rest ≡ true → ((t && false) || list_any (same_entry_key (entry_key g Complete)) rest) ≡ true → (if (t && false) then 0 else suc (first_position (same_entry_key (entry_key g Deleting)) rest)) ≡ (if (t && false) then 0 else suc (first_position (same_entry_key (entry_key g Complete)) rest)) + 1)
    (λ t there e. let i = next_place g rest b there in omega arith)
    (λ t there e. let i = next_place g rest b there in omega arith)
    (later (same_function g f) (list_any (same_entry_key (entry_key g Complete)) rest) is) is
  where
    later : (s t : Bool) → ((s && false) || t) ≡ true → t ≡ true
    later true t e = e
    later false t e = e
next_place g all (end_block f rest b) is =
    split (same_function g f) (λ t. ((t && true) || ((t && false) || list_any (same_entry_key (entry_key g Complete)) rest)) ≡ true → (if (t && false) then 0 else suc (if (t && true) then 0 else suc (first_position (same_entry_key (entry_key g Deleting)) rest))) ≡ (if (t && true) then 0 else suc (if (t && false) then 0 else suc (first_position (same_entry_key (entry_key g Complete)) rest))) + 1)
    (λ t e. refl) (λ t e. let i = next_place g rest b e in omega arith) is

module _ (h : Classes) (l : Places) (keeps : IsHierarchy h) (are : ArePrimaries h l) where
  by_twins : (all : List EntryKey) (a b : EntryKey) → AreBlocks all → list_any (same_entry_key a) all ≡ true → Twins a b → first_position (same_entry_key b) all ≡ first_position (same_entry_key a) all + 1
  by_twins all a b blocks there (twins g) = next_place g all blocks there

  pub deleting_next : (f : FunctionId) → f.class.0 < length h → Contains (own h f.class) f → signature_of h f ≡ Some destructor → entry_number h l (entry_key f Deleting) ≡ entry_number h l (first_key h f) + 1
  deleting_next f known listed is =
      let all = entries h l f.class in
      let at = index_of (own h f.class) f (has_from_contains (own h f.class) f listed) in
      let mine : Item (keys_of h f) (entry_key f Complete) = record { index = 0; there = ap (λ (s : Option Signature). slice_get (map (entry_key f) (kinds_in s)) 0) is } in
      let item = item_flat (keys_of h) (own h f.class) f (entry_key f Complete) (record { index = at.0; there = at.1 }) mine in
      let stands = entry_there h l keeps are (entry_key f Complete) known item in
      let there = any_item (same_entry_key (listing h l (entry_key f Complete))) all (listing h l (entry_key f Complete)) (record { index = entry_number h l (entry_key f Complete); there = stands }) (key_itself (listing h l (entry_key f Complete))) in
      by_twins all (listing h l (entry_key f Complete)) (listing h l (entry_key f Deleting)) (entries_blocks h l (f.class.0 + 1) f.class) there (found_twins h l f (primary_entries (entries h l) (l.primary f.class)) (before_blocks (entries h l) (λ b. entries_blocks h l (b.0 + 1) b) (l.primary f.class)))
      ∙ ap (λ (s : Option Signature). entry_number h l (entry_key f (first_kind s)) + 1) (sym is)

-- the virtual destructor of a class has an entry there
pub own_end : (h : Classes) → IsHierarchy h → (c : ClassId) → is_virtual h (destructor_of h c) ≡ true → Contains (own h c) (destructor_of h c)
own_end h keeps c is = contains_from_has (own h c) (destructor_of h c) (virtual_own h keeps c (destructor_of h c) refl (test_virtual h (destructor_of h c) is))

pub end_entry : (h : Classes) (rows : List ClassLayout) → IsHierarchy h → IsSoundLayout h rows → (c : ClassId) → c.0 < length h → is_virtual h (destructor_of h c) ≡ true
    → entry_number h (places_of h rows) (entry_key (destructor_of h c) Deleting) ≡ entry_number h (places_of h rows) (first_key h (destructor_of h c)) + 1
end_entry h rows keeps sound c known is =
    deleting_next h (places_of h rows) keeps (record { direct = λ d b low e. (sound.each d low).direct b e; virtual = λ d v low e. (sound.each d low).virtual v e }) (destructor_of h c) known (own_end h keeps c is) (destructor_signature h c known)
