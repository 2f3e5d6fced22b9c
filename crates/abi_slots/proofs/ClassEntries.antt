-- The entries of a class, and what its tables say of them.
use Rattle.std.proofs.Common.{◌≡◌, ℕ, zero, suc, ◌+◌, ◌-◌, ◌<◌, ◌≤◌, ◌⊎◌, ⊎_elim, Bool, true, false, Option, Some, None, List, [], ◌∷◌, ◌++◌, map, length, get_or, refl, ap, subst, sym, ◌∙◌, arith}
use Rattle.std.specs.Prelude.{◌&&◌, ◌||◌, if◌then◌else◌, slice_get, option_map, All, Contains, IfOk, Result, Ok, Err}
use Rattle.foundation.specs.declared.memory.NoMemory.{NoMemory}
use Rattle.abi_slots.specs.declared.entries.Entries.{Entries}
use Rattle.std.specs.List.{find, flat_map, list_any, filter}
use Rattle.std.proofs.lemmas.Bool.{and_parts, and_from}
use Rattle.std.proofs.lemmas.Option.{slice_get-get_or}
use Rattle.cxx_hierarchy.specs.declared.records.ClassId.{ClassId}
use Rattle.cxx_hierarchy.specs.Classes.{Classes, functions_of}
use Rattle.cxx_hierarchy.specs.Hierarchies.{IsHierarchy}
use Rattle.cxx_overrider.specs.declared.FunctionId.{FunctionId}
use Rattle.cxx_overrider.specs.Functions.{Signature, named, destructor, signature_of}
use Rattle.abi_primary.specs.declared.Primary.{Primary}
use Rattle.abi_primary.specs.declared.Primary.TheVariants.{None as NoPrimary, Direct, Virtual}
use Rattle.abi_sound.specs.Places.{Places}
use Rattle.abi_slots.specs.declared.words.CodeKind.{CodeKind}
use Rattle.abi_slots.specs.declared.words.CodeKind.TheVariants.{Plain, Complete, Deleting}
use Rattle.abi_slots.specs.declared.words.EntryKey.{EntryKey}
use Rattle.abi_slots.specs.declared.entries.Listing.{Listing}
use Rattle.cxx_overrider.specs.Virtuals.{same_name, own}
use Rattle.abi_slots.specs.Listing.{entry_key, kinds_in, keys_of, own_keys, same_entry_key, shares, primary_entries, new_entries, entries_in, entries, listing}
use Rattle.abi_slots.specs.Rows.{listing_of_key, listed_all, listing_of, listings_of, has_entry, listing_function, listed_function, is_first, HaveOneEntry}
use Rattle.abi_slots.specs.Slots.{first_kind, first_key, declared_at}
use Rattle.abi_slots.proofs.Lists.{Item, item_first, item_later, item_none, item_split, item_cases, item_map, from_map, item_flat, from_flat, from_filter}
use Rattle.abi_slots.proofs.Names.{name_is, key_is}
use Rattle.abi_slots.proofs.Owns.{own_class, own_virtual}
use Rattle.abi_slots.proofs.Complete.{same_bool}
use Rattle.abi_slots.proofs.Listings.{ArePrimaries, entries_is, listing_is_named}
use Rattle.abi_slots.proofs.Bounds.{function_bounds, function_low}
use Rattle.foundation.proofs.Truth.{split}

-- keys

-- a key of a virtual function that its class declares
pub record IsOwnKey (h : Classes) (k : EntryKey) : Type 0 where
  pub declares : Item (own h k.function.class) k.function
  pub kind : Item (kinds_in (signature_of h k.function)) k.kind

key_parts : (h : Classes) (f : FunctionId) (k : EntryKey) → Item (keys_of h f) k → (k.function ≡ f) × Item (kinds_in (signature_of h f)) k.kind
key_parts h f k i = let r = from_map (entry_key f) (kinds_in (signature_of h f)) k i in (ap (λ (x : EntryKey). x.function) (sym r.2), subst (λ (x : EntryKey). Item (kinds_in (signature_of h f)) x.kind) r.2 r.1)

pub own_key : (h : Classes) (c : ClassId) (k : EntryKey) → Item (own_keys h c) k → (k.function.class ≡ c) × IsOwnKey h k
own_key h c k i =
    let r = from_flat (keys_of h) (own h c) k i in
    let parts = key_parts h r.0 k r.2 in
    let class = own_class h c r.0 r.1 in
    let same : k.function.class ≡ c = ap (λ (f : FunctionId). f.class) parts.0 ∙ class in
    let declares : Item (own h c) k.function = subst (λ f. Item (own h c) f) (sym parts.0) r.1 in (
      same,
      record {
        declares = subst (λ a. Item (own h a) k.function) (sym same) declares;
        kind = subst (λ f. Item (kinds_in (signature_of h f)) k.kind) (sym parts.0) parts.1;
      },
    )

key_known : (h : Classes) → IsHierarchy h → (k : EntryKey) → IsOwnKey h k → (k.function.class.0 < length h) × (k.function.index ≤ 1024)
key_known h keeps k is = let virtual = own_virtual h keeps k.function.class k.function is.declares in function_bounds h keeps k.function virtual.signature virtual.is

-- each entry of a class is a key of some class
old_own : (h : Classes) (f : ClassId → List EntryKey) → ((b : ClassId) (k : EntryKey) → Item (f b) k → IsOwnKey h k) → (p : Primary) (k : EntryKey) → Item (primary_entries f p) k → IsOwnKey h k
old_own h f each NoPrimary k i = absurd (item_none k i)
old_own h f each (Direct b) k i = each b k i
old_own h f each (Virtual v) k i = each v k i

entry_own_in : (h : Classes) (l : Places) (n : ℕ) (c : ClassId) (k : EntryKey) → Item (entries_in h l n c) k → IsOwnKey h k
entry_own_in h l zero c k i = absurd (item_none k i)
entry_own_in h l (suc n) c k i =
    let old = primary_entries (entries_in h l n) (l.primary c) in
    ⊎_elim (λ a. old_own h (entries_in h l n) (λ b x j. entry_own_in h l n b x j) (l.primary c) k a)
    (λ b. (own_key h c k (from_filter (λ x. Rattle.std.specs.Prelude.not (list_any (shares h l x) old)) (own_keys h c) k b).0).1)
    (item_cases old (new_entries h l old (own_keys h c)) k i)

pub entry_own : (h : Classes) (l : Places) (c : ClassId) (k : EntryKey) → Item (entries h l c) k → IsOwnKey h k
entry_own h l c k i = entry_own_in h l (c.0 + 1) c k i

all_known : (h : Classes) → IsHierarchy h → (keys : List EntryKey) → ((k : EntryKey) → Item keys k → IsOwnKey h k) → All (λ (k : EntryKey). k.function.class.0 < length h) keys
all_known h keeps keys each = λ i d lt. (key_known h keeps (get_or keys i d) (each (get_or keys i d) (record { index = i; there = slice_get-get_or keys i d lt }))).0

pub keys_known : (h : Classes) → IsHierarchy h → (c : ClassId) (mine : List FunctionId) (keys : List EntryKey) → mine ≡ own h c → keys ≡ flat_map (keys_of h) mine → All (λ (k : EntryKey). k.function.class.0 < length h) keys
keys_known h keeps c mine keys is made = all_known h keeps keys (λ k i. (own_key h c k (subst (λ xs. Item xs k) (made ∙ ap (flat_map (keys_of h)) is) i)).1)

pub old_known : (h : Classes) (l : Places) → IsHierarchy h → (p : Primary) (old : List EntryKey) → old ≡ primary_entries (entries h l) p → All (λ (k : EntryKey). k.function.class.0 < length h) old
old_known h l keeps p old is = all_known h keeps old (λ k i. old_own h (entries h l) (λ b x j. entry_own h l b x j) p k (subst (λ xs. Item xs k) is i))

-- entries and listings

pub entries_are : (h : Classes) (l : Places) (keeps : IsHierarchy h) (are : ArePrimaries h l) (c : ClassId) (p : Primary) (mine : List FunctionId) (keys old all : List EntryKey) → c.0 < length h → p ≡ l.primary c → mine ≡ own h c → keys ≡ flat_map (keys_of h) mine → old ≡ primary_entries (entries h l) p
    → all ≡ old ++ new_entries h l old keys → all ≡ entries h l c
entries_are h l keeps are c p mine keys old all known primary owns made before e =
    let old_is = before ∙ ap (primary_entries (entries h l)) primary in
    let keys_are = made ∙ ap (flat_map (keys_of h)) owns in
    e ∙ ap (λ xs. xs ++ new_entries h l xs keys) old_is ∙ ap (λ ks. primary_entries (entries h l) (l.primary c) ++ new_entries h l (primary_entries (entries h l) (l.primary c)) ks) keys_are ∙ sym (entries_is h l keeps are c known)

map_same : {A : Type 0} {B : Type 0} (f g : A → B) (xs : List A) → ((x : A) → Item xs x → f x ≡ g x) → map f xs ≡ map g xs
map_same f g [] same = refl
map_same f g (x ∷ xs) same = ap (λ y. y ∷ map f xs) (same x (item_first x xs)) ∙ ap (λ ys. g x ∷ ys) (map_same f g xs (λ y i. same y (item_later x xs y i)))

pub listings_are : (h : Classes) (l : Places) (c : ClassId) (p : Primary) (mine : List FunctionId) (keys old : List EntryKey) (all : List Listing) → p ≡ l.primary c → mine ≡ own h c → keys ≡ flat_map (keys_of h) mine → old ≡ primary_entries (entries h l) p
    → all ≡ listed_all h l old keys → all ≡ listings_of h l c
listings_are h l c p mine keys old all primary owns made before e =
    let old_is = before ∙ ap (primary_entries (entries h l)) primary in
    let keys_are = made ∙ ap (flat_map (keys_of h)) owns in
    let base = primary_entries (entries h l) (l.primary c) in
    e ∙ ap (λ xs. listed_all h l xs keys) old_is ∙ ap (listed_all h l base) keys_are
    ∙ map_same (λ k. listing_of_key k (find (shares h l k) base)) (listing_of h l) (own_keys h c)
    (λ k i. ap (λ (a : ClassId). listing_of_key k (find (shares h l k) (primary_entries (entries h l) (l.primary a)))) (sym (own_key h c k i).0))

-- the function of a class's own that has an entry

-- the kind of an entry is one that functions of its name have
same_kinds : (h : Classes) (f : FunctionId) (k : EntryKey) (s : Signature) → signature_of h f ≡ Some s → IsOwnKey h k → same_name h f k.function ≡ true → Item (kinds_in (Some s)) k.kind
same_kinds h f k s is own_k same = subst (λ o. Item (kinds_in o) k.kind) (sym (name_is h f k.function same) ∙ is) own_k.kind

one_kind : (kind : CodeKind) → Item (Plain ∷ []) kind → kind ≡ Plain
one_kind kind i = ⊎_elim (λ e. sym e) (λ j. absurd (item_none kind j)) (item_split Plain [] kind i)

two_kinds : (kind : CodeKind) → Item (Complete ∷ Deleting ∷ []) kind → (kind ≡ Complete) ⊎ (kind ≡ Deleting)
two_kinds kind i = ⊎_elim (λ e. Rattle.std.proofs.Common.inl (sym e)) (λ j. ⊎_elim (λ e. Rattle.std.proofs.Common.inr (sym e)) (λ n. absurd (item_none kind n)) (item_split Deleting [] kind j)) (item_split Complete (Deleting ∷ []) kind i)

one_or : (rest : Option Listing) (found : Option FunctionId) (f : FunctionId) (b c : Bool) (x : Listing) → b ≡ c → listing_function x ≡ f → option_map listing_function rest ≡ found → option_map listing_function (if b then Some x else rest) ≡ (if c then Some f else found)
one_or rest found f true c x e of rec = rw (← e) (ap (λ a. Some a) of)
one_or rest found f false c x e of rec = rw (← e) rec

two_or : (rest : Option Listing) (found : Option FunctionId) (f : FunctionId) (a b c : Bool) (x y : Listing) → (a || b) ≡ c → listing_function x ≡ f → listing_function y ≡ f → option_map listing_function rest ≡ found → option_map listing_function (if a then Some x else (if b then Some y else rest)) ≡ (if c then Some f else found)
two_or rest found f true b c x y e of also rec = rw (← e) (ap (λ z. Some z) of)
two_or rest found f false b c x y e of also rec = one_or rest found f b c y e also rec

module _ (h : Classes) (l : Places) (keeps : IsHierarchy h) (are : ArePrimaries h l) where
  abbrev tests : EntryKey → FunctionId → Bool
  tests k f = same_name h f k.function && same_entry_key (listing h l (entry_key f k.kind)) k

  -- a key of f that has the entry passes
  shared_passes : (f : FunctionId) (kind : CodeKind) (k : EntryKey) (s : Signature) → signature_of h f ≡ Some s → same_entry_key (listing h l (entry_key f kind)) k ≡ true → tests k f ≡ true
  shared_passes f kind k s is test =
      let e = key_is (listing h l (entry_key f kind)) k test in
      let named_so = listing_is_named h l keeps are (entry_key f kind) s is in
      let same : same_name h f k.function ≡ true = ap (λ (a : EntryKey). same_name h f a.function) (sym e) ∙ named_so.0 in
      let kinds : kind ≡ k.kind = sym named_so.1 ∙ ap (λ (a : EntryKey). a.kind) e in
      and_from (same_name h f k.function) (same_entry_key (listing h l (entry_key f k.kind)) k) same (ap (λ j. same_entry_key (listing h l (entry_key f j)) k) (sym kinds) ∙ test)

  plain_passes : (f : FunctionId) (k : EntryKey) (n : List ℕ) (ts : List (Rattle.cxx_hierarchy.specs.declared.records.ValueType.ValueType ClassId)) → signature_of h f ≡ Some (named n ts) → IsOwnKey h k → same_entry_key (listing h l (entry_key f Plain)) k ≡ tests k f
  plain_passes f k n ts is own_k = same_bool (same_entry_key (listing h l (entry_key f Plain)) k) (tests k f)
      (λ e. shared_passes f Plain k (named n ts) is e)
      (λ e.
      let both = and_parts (same_name h f k.function) (same_entry_key (listing h l (entry_key f k.kind)) k) e in
      let kind = one_kind k.kind (same_kinds h f k (named n ts) is own_k both.0) in
      ap (λ j. same_entry_key (listing h l (entry_key f j)) k) (sym kind) ∙ both.1)

  two_pass : (f : FunctionId) (k : EntryKey) → signature_of h f ≡ Some destructor → IsOwnKey h k → (same_entry_key (listing h l (entry_key f Complete)) k || same_entry_key (listing h l (entry_key f Deleting)) k) ≡ tests k f
  two_pass f k is own_k = same_bool (same_entry_key (listing h l (entry_key f Complete)) k || same_entry_key (listing h l (entry_key f Deleting)) k) (tests k f)
      (λ e. split (same_entry_key (listing h l (entry_key f Complete)) k) (λ b. same_entry_key (listing h l (entry_key f Complete)) k ≡ b → (b || same_entry_key (listing h l (entry_key f Deleting)) k) ≡ true → tests k f ≡ true)
      (λ t same other. shared_passes f Complete k destructor is same)
      (λ t same other. shared_passes f Deleting k destructor is other)
      refl e)
      (λ e.
      let both = and_parts (same_name h f k.function) (same_entry_key (listing h l (entry_key f k.kind)) k) e in
      ⊎_elim
      (λ kind. Rattle.abi_slots.proofs.Lists.or_left (same_entry_key (listing h l (entry_key f Complete)) k) (same_entry_key (listing h l (entry_key f Deleting)) k) (ap (λ j. same_entry_key (listing h l (entry_key f j)) k) (sym kind) ∙ both.1))
      (λ kind. Rattle.abi_slots.proofs.Lists.or_right (same_entry_key (listing h l (entry_key f Complete)) k) (same_entry_key (listing h l (entry_key f Deleting)) k) (ap (λ j. same_entry_key (listing h l (entry_key f j)) k) (sym kind) ∙ both.1))
      (two_kinds k.kind (same_kinds h f k destructor is own_k both.0)))

  -- the first function whose key has the entry
  declared_over : (k : EntryKey) → IsOwnKey h k → (fs : List FunctionId) → option_map listing_function (find (has_entry k) (map (listing_of h l) (flat_map (keys_of h) fs))) ≡ find (tests k) fs
  declared_over k own_k [] = refl
  declared_over k own_k (f ∷ fs) = by_signature (signature_of h f) refl (declared_over k own_k fs)
    where
      by_signature : (o : Option Signature) → signature_of h f ≡ o → option_map listing_function (find (has_entry k) (map (listing_of h l) (flat_map (keys_of h) fs))) ≡ find (tests k) fs
          → option_map listing_function (find (has_entry k) (map (listing_of h l) (map (entry_key f) (kinds_in (signature_of h f)) ++ flat_map (keys_of h) fs))) ≡ find (tests k) (f ∷ fs)
      by_signature None is rec = let none : tests k f ≡ false = rw is refl in ap (λ a. option_map listing_function (find (has_entry k) (map (listing_of h l) (map (entry_key f) (kinds_in a) ++ flat_map (keys_of h) fs)))) is ∙ rec ∙ sym (ap (λ b. if b then Some f else find (tests k) fs) none)
      by_signature (Some (named n ts)) is rec = ap (λ a. option_map listing_function (find (has_entry k) (map (listing_of h l) (map (entry_key f) (kinds_in a) ++ flat_map (keys_of h) fs)))) is ∙ (one_or _ (find (tests k) fs) f (same_entry_key (listing h l (entry_key f Plain)) k) (tests k f) (listing_of h l (entry_key f Plain)) (plain_passes f k n ts is own_k) refl rec)
      by_signature (Some destructor) is rec = ap (λ a. option_map listing_function (find (has_entry k) (map (listing_of h l) (map (entry_key f) (kinds_in a) ++ flat_map (keys_of h) fs)))) is ∙ (two_or _ (find (tests k) fs) f (same_entry_key (listing h l (entry_key f Complete)) k) (same_entry_key (listing h l (entry_key f Deleting)) k) (tests k f) (listing_of h l (entry_key f Complete)) (listing_of h l (entry_key f Deleting)) (two_pass f k is own_k) refl refl rec)

  pub declared_are : (c : ClassId) → map (listed_function (listings_of h l c)) (entries h l c) ≡ map (declared_at h l c) (entries h l c)
  declared_are c = map_same (listed_function (listings_of h l c)) (declared_at h l c) (entries h l c) (λ k i. declared_over k (entry_own h l c k i) (own h c))

  -- the numbers of entries

  first_in_kinds : (s : Signature) (kind : CodeKind) → Item (kinds_in (Some s)) kind → is_first kind ≡ true → kind ≡ first_kind (Some s)
  first_in_kinds (named n ts) kind i first = one_kind kind i
  first_in_kinds destructor kind i first = ⊎_elim (λ e. e) (λ e. absurd (let f : is_first Deleting ≡ true = ap is_first (sym e) ∙ first in cc)) (two_kinds kind i)

  first_of_key : (k : EntryKey) → IsOwnKey h k → is_first k.kind ≡ true → k ≡ first_key h k.function
  first_of_key k is first =
      let virtual = own_virtual h keeps k.function.class k.function is.declares in
      let kinds = subst (λ o. Item (kinds_in o) k.kind) virtual.is is.kind in
      let e : k.kind ≡ first_kind (signature_of h k.function) = first_in_kinds virtual.signature k.kind kinds first ∙ ap first_kind (sym virtual.is) in
      ap (entry_key k.function) e

  same_index : (c : ClassId) (f g : FunctionId) → f.class ≡ c → g.class ≡ c → f.index ≡ g.index → f ≡ g
  same_index c f g a b e = let make : ClassId → ℕ → FunctionId = λ x n. record { class = x; index = n } in let one : make f.class f.index ≡ make g.class g.index = ap (λ x. make x f.index) (a ∙ sym b) ∙ ap (make g.class) e in one

  pub one_entry : (c : ClassId) → HaveOneEntry (listings_of h l c)
  one_entry c = record {
    each = λ i j x y at to first second same.
        let a = from_map (listing_of h l) (own_keys h c) x (record { index = i; there = at }) in
        let b = from_map (listing_of h l) (own_keys h c) y (record { index = j; there = to }) in
        let ka = own_key h c a.0 a.1 in
        let kb = own_key h c b.0 b.1 in
        let index_a = ap (λ (z : Listing). z.key.function.index) a.2 in
        let index_b = ap (λ (z : Listing). z.key.function.index) b.2 in
        let function = same_index c a.0.function b.0.function ka.0 kb.0 (index_a ∙ same ∙ sym index_b) in
        let fa = first_of_key a.0 ka.1 (ap (λ (z : Listing). is_first z.key.kind) a.2 ∙ first) in
        let fb = first_of_key b.0 kb.1 (ap (λ (z : Listing). is_first z.key.kind) b.2 ∙ second) in
        let keys : a.0 ≡ b.0 = fa ∙ ap (first_key h) function ∙ sym fb in
        ap (λ (z : Listing). z.entry) (sym a.2) ∙ ap (listing h l) keys ∙ ap (λ (z : Listing). z.entry) b.2;
  }

  pub indices_low : (c : ClassId) (count : ℕ) → length (functions_of h c) < count → All (λ (x : Listing). x.key.function.index < count) (listings_of h l c)
  indices_low c count many = λ i d lt.
      let x = get_or (listings_of h l c) i d in
      let a = from_map (listing_of h l) (own_keys h c) x (record { index = i; there = slice_get-get_or (listings_of h l c) i d lt }) in
      let ka = own_key h c a.0 a.1 in
      let virtual = own_virtual h keeps a.0.function.class a.0.function ka.1.declares in
      let bound = function_low h a.0.function virtual.signature virtual.is in
      let class = ap (λ (d : ClassId). length (functions_of h d)) ka.0 in
      let e : a.0.function.index ≡ x.key.function.index = ap (λ (z : Listing). z.key.function.index) a.2 in
      omega arith

-- of a result

pub own_known : (h : Classes) → IsHierarchy h → (c : ClassId) (mine : List FunctionId) → mine ≡ own h c → All (λ (f : FunctionId). f.class.0 < length h) mine
own_known h keeps c mine is = λ k d lt.
    let f = get_or mine k d in
    let there : Item (own h c) f = subst (λ xs. Item xs f) is (record { index = k; there = slice_get-get_or mine k d lt }) in
    let virtual = own_virtual h keeps c f there in
    (function_bounds h keeps f virtual.signature virtual.is).0

pub class_entries_are : (h : Classes) (l : Places) (keeps : IsHierarchy h) (are : ArePrimaries h l) (c : ClassId) (p : Primary) (mine : List FunctionId) (keys old : List EntryKey) (r : Result Entries NoMemory) → c.0 < length h → p ≡ l.primary c → mine ≡ own h c → keys ≡ flat_map (keys_of h) mine → old ≡ primary_entries (entries h l) p
    → IfOk r (λ all. all.entries.items ≡ old ++ new_entries h l old keys) → IfOk r (λ all. all.entries.items ≡ entries h l c)
class_entries_are h l keeps are c p mine keys old (Ok all) known primary owns made before e = entries_are h l keeps are c p mine keys old all.entries.items known primary owns made before e
class_entries_are h l keeps are c p mine keys old (Err error) known primary owns made before e = e

pub class_listings_are : (h : Classes) (l : Places) (c : ClassId) (p : Primary) (mine : List FunctionId) (keys old : List EntryKey) (r : Result Entries NoMemory) → p ≡ l.primary c → mine ≡ own h c → keys ≡ flat_map (keys_of h) mine → old ≡ primary_entries (entries h l) p
    → IfOk r (λ all. all.listings.items ≡ listed_all h l old keys) → IfOk r (λ all. all.listings.items ≡ listings_of h l c)
class_listings_are h l c p mine keys old (Ok all) primary owns made before e = listings_are h l c p mine keys old all.listings.items primary owns made before e
class_listings_are h l c p mine keys old (Err error) primary owns made before e = e

pub low_indices : (h : Classes) (l : Places) (keeps : IsHierarchy h) (are : ArePrimaries h l) (c : ClassId) (listings : List Listing) (count : ℕ) → listings ≡ listings_of h l c → length (functions_of h c) < count → All (λ (x : Listing). x.key.function.index < count) listings
low_indices h l keeps are c listings count is many = λ i d lt.
    let size = ap length is in
    let low = indices_low h l keeps are c count many i d (omega arith) in
    let e = ap (λ xs. (get_or xs i d).key.function.index) is in
    omega arith
