-- The row of a class, of its parts.
use Rattle.std.proofs.Common.{◌≡◌, ℕ, zero, suc, ◌+◌, ◌<◌, ◌≤◌, ⊎_elim, true, false, Option, Some, None, List, [], ◌∷◌, ◌++◌, map, length, refl, ap, subst, sym, ◌∙◌, arith}
use Rattle.std.specs.Prelude.{slice_get, Contains, IfOk, Result, Ok, Err}
use Rattle.std.proofs.lemmas.Bool.{cases_lt}
use Rattle.foundation.specs.declared.memory.NoMemory.{NoMemory}
use Rattle.cxx_hierarchy.specs.declared.records.ClassId.{ClassId}
use Rattle.cxx_hierarchy.specs.Classes.{Classes}
use Rattle.cxx_hierarchy.specs.Hierarchies.{IsHierarchy}
use Rattle.cxx_subobject.proofs.PathLemmas.{same_id}
use Rattle.cxx_overrider.specs.declared.FunctionId.{FunctionId}
use Rattle.cxx_overrider.specs.Functions.{Signature, named, destructor, signature_of}
use Rattle.cxx_overrider.specs.invariants.Numbers.{IsNumbering}
use Rattle.abi_sound.specs.Places.{Places}
use Rattle.abi_slots.specs.declared.words.EntryKey.{EntryKey}
use Rattle.abi_slots.specs.declared.entries.Listing.{Listing}
use Rattle.abi_slots.specs.declared.rows.SlotRow.{SlotRow}
use Rattle.abi_slots.specs.declared.offset_tables.OffsetTable.{OffsetTable}
use Rattle.cxx_overrider.specs.Virtuals.{own}
use Rattle.abi_slots.specs.Listing.{entry_key, kinds_in, keys_of, own_keys, same_entry_key, first_position, listing, entries, offsets, entry_number}
use Rattle.abi_slots.specs.Rows.{listing_of, listings_of, listed_function, is_first, AreEntryNumbers}
use Rattle.abi_slots.specs.Slots.{first_kind, first_key, IsSlotRow}
use Rattle.abi_slots.specs.invariants.OffsetWords.{virtual_base_number, name_number, AreWords}
use Rattle.abi_slots.specs.invariants.SlotRows.{AreSlotRows, ListsShared}
use Rattle.abi_slots.proofs.Lists.{Item, item_map, item_flat}
use Rattle.abi_slots.proofs.Bases.{item_contains}
use Rattle.abi_slots.proofs.Owns.{own_class, own_virtual}
use Rattle.abi_slots.proofs.Listings.{ArePrimaries}
use Rattle.abi_slots.proofs.OffsetBounds.{few_offsets}
use Rattle.abi_slots.proofs.ClassEntries.{declared_are}
use Rattle.abi_slots.proofs.ClassOffsets.{vbase_kept, vcall_kept}

first_item : (s : Signature) → Item (kinds_in (Some s)) (first_kind (Some s))
first_item (named n ts) = record { index = 0; there = refl }
first_item destructor = record { index = 0; there = refl }

first_is : (o : Option Signature) → is_first (first_kind o) ≡ true
first_is None = refl
first_is (Some (named n ts)) = refl
first_is (Some destructor) = refl

-- the number of a function's entry is kept
entry_kept : (h : Classes) (l : Places) → IsHierarchy h → (c : ClassId) (f : FunctionId) (all : List EntryKey) (listings : List Listing) (numbers : List ℕ) → all ≡ entries h l c → listings ≡ listings_of h l c → AreEntryNumbers all listings numbers → Contains (own h c) f
    → slice_get numbers f.index ≡ Some (entry_number h l (first_key h f))
entry_kept h l keeps c f all listings numbers all_is listings_is are contains =
    let declares = item_contains (own h c) f contains in
    let class = own_class h c f declares in
    let virtual = own_virtual h keeps c f declares in
    let k = first_key h f in
    let kind : Item (kinds_in (signature_of h f)) (first_kind (signature_of h f)) = subst (λ o. Item (kinds_in o) (first_kind o)) (sym virtual.is) (first_item virtual.signature) in
    let in_keys : Item (own_keys h c) k = item_flat (keys_of h) (own h c) f k declares (item_map (entry_key f) (kinds_in (signature_of h f)) (first_kind (signature_of h f)) kind) in
    let in_list : Item listings (listing_of h l k) = subst (λ xs. Item xs (listing_of h l k)) (sym listings_is) (item_map (listing_of h l) (own_keys h c) k in_keys) in
    are.each in_list.index (listing_of h l k) in_list.there (first_is (signature_of h f))
    ∙ ap (λ xs. Some (first_position (same_entry_key (listing h l k)) xs)) all_is ∙ ap (λ d. Some (first_position (same_entry_key (listing h l k)) (entries h l d))) (sym class)

-- the row of a class
pub row_is : (h : Classes) (l : Places) (keeps : IsHierarchy h) (are : ArePrimaries h l) (numbers : List (List ℕ)) (count : ℕ) → IsNumbering h numbers count → (c : ClassId) → c.0 < length h → (row : SlotRow) (listings : List Listing) → row.entries ≡ entries h l c → listings ≡ listings_of h l c
    → row.declared ≡ map (listed_function listings) row.entries → AreEntryNumbers row.entries listings row.numbers → row.offsets ≡ offsets h l false c → length row.vbases ≡ c.0 → AreWords virtual_base_number row.offsets row.vbases → ListsShared h l numbers count c row.shared_offsets row.vcalls
    → IsSlotRow h l numbers c row
row_is h l keeps are numbers count numbering c known row listings all_is listings_is declared_is numbers_are plain_is size words shared = record {
  lists_entries = all_is;
  declares = declared_is ∙ ap (λ xs. map (listed_function xs) row.entries) listings_is ∙ ap (map (listed_function (listings_of h l c))) all_is ∙ declared_are h l keeps are c;
  entry = λ f contains. entry_kept h l keeps c f row.entries listings row.numbers all_is listings_is numbers_are contains;
  lists_offsets = plain_is;
  vbase = λ v has. vbase_kept h l keeps are c v row.offsets row.vbases known words size plain_is has;
  lists_shared = shared.listed;
  vcall = λ is f n number any. vcall_kept h l numbers count numbering c f n row.shared_offsets row.vcalls (shared.words_are is) (shared.size is) (shared.listed is) number any;
}

-- what is listed as a virtual base
pub lists_shared : (h : Classes) (l : Places) (keeps : IsHierarchy h) (are : ArePrimaries h l) (numbers : List (List ℕ)) (count : ℕ) (c : ClassId) → c.0 < length h → (r : Result OffsetTable NoMemory) → IfOk r (λ table. table.offsets.items ≡ offsets h l true c) → IfOk r (λ table. length table.words.items ≡ count) → IfOk r (λ table. AreWords (name_number numbers) table.offsets.items table.words.items)
    → IfOk r (λ table. ListsShared h l numbers count c table.offsets.items table.words.items)
lists_shared h l keeps are numbers count c known (Ok table) is size words = record {
  few = let few = few_offsets h l keeps are true c known in let same = ap length is in omega arith;
  listed = λ base. is;
  size = λ base. size;
  words_are = λ base. words;
}
lists_shared h l keeps are numbers count c known (Err error) is size words = is

-- one row more
last_index : {A : Type 0} (xs : List A) (x : A) (i : ℕ) (y : A) → slice_get (xs ++ x ∷ []) i ≡ Some y → i < length xs → slice_get xs i ≡ Some y
last_index [] x i y at lt = absurd (omega arith)
last_index (z ∷ xs) x zero y at lt = at
last_index (z ∷ xs) x (suc i) y at lt = last_index xs x i y at (omega arith)

last_item : {A : Type 0} (xs : List A) (x : A) (i : ℕ) (y : A) → slice_get (xs ++ x ∷ []) i ≡ Some y → length xs ≤ i → (x ≡ y) × (i ≡ length xs)
last_item [] x zero y at le = (cc, refl)
last_item [] x (suc i) y at le = absurd (cc)
last_item (z ∷ xs) x zero y at le = absurd (omega arith)
last_item (z ∷ xs) x (suc i) y at le = let r = last_item xs x i y at (omega arith) in (r.0, ap suc r.1)

pub rows_more : (h : Classes) (l : Places) (numbers : List (List ℕ)) (rows new : List SlotRow) (row : SlotRow) (c : ClassId) → AreSlotRows h l numbers rows → length rows ≡ c.0 → IsSlotRow h l numbers c row → new ≡ rows ++ row ∷ [] → AreSlotRows h l numbers new
rows_more h l numbers rows new row c are size is grows = record {
  each = λ d x at.
      let there = ap (λ xs. slice_get xs d.0) (sym grows) ∙ at in
      ⊎_elim (λ (lt : d.0 < length rows). are.each d x (last_index rows row d.0 x there lt))
      (λ (le : length rows ≤ d.0).
      let last = last_item rows row d.0 x there le in
      let same : c ≡ d = same_id c d (omega arith) in
      subst (λ (y : SlotRow). IsSlotRow h l numbers d y) last.0 (subst (λ e. IsSlotRow h l numbers e row) same is))
      (cases_lt d.0 (length rows));
}
