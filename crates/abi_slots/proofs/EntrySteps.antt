-- One more key.
use Rattle.std.proofs.Common.{◌≡◌, ℕ, ◌+◌, ◌<◌, Option, Some, None, List, [], ◌∷◌, ◌++◌, length, drop, get_or, refl, ap, sym}
use Rattle.std.specs.List.{find}
use Rattle.cxx_hierarchy.specs.Classes.{Classes}
use Rattle.abi_sound.specs.Places.{Places}
use Rattle.abi_slots.specs.declared.words.EntryKey.{EntryKey}
use Rattle.abi_slots.specs.declared.entries.Listing.{Listing}
use Rattle.abi_slots.specs.Listing.{shares, new_entries}
use Rattle.abi_slots.specs.Rows.{listing_of_key, listed_all, own_part}
use Rattle.abi_slots.proofs.Lists.{found_passes, none_found, any_item}
use Rattle.abi_slots.proofs.Loops.{pushed_more}
use Rattle.foundation.proofs.Places.{any_default}

pub pushed_at : {A : Type 0} {B : Type 0} (f : List A → List B) (xs : List A) (i : ℕ) (d : A) (piece done new all : List B) → i < length xs → f (get_or xs i d ∷ drop (i + 1) xs) ≡ piece ++ f (drop (i + 1) xs) → new ≡ done ++ piece → done ++ f (drop i xs) ≡ all → new ++ f (drop (i + 1) xs) ≡ all
pushed_at f xs i d piece done new all lt opens e inv = pushed_more f xs i (get_or xs i d) piece done new all lt (any_default xs i d (get_or xs i d) lt) opens e inv

entry_opens : (h : Classes) (l : Places) (old : List EntryKey) (x : EntryKey) (xs : List EntryKey) (shared : Option EntryKey) → find (shares h l x) old ≡ shared → new_entries h l old (x ∷ xs) ≡ own_part x shared ++ new_entries h l old xs
entry_opens h l old x xs None e = let f = none_found (shares h l x) old e in rw f refl
entry_opens h l old x xs (Some y) e =
    let r = found_passes (shares h l x) old y e in
    let f = any_item (shares h l x) old y r.0 r.1 in
    rw f refl

pub entry_step : (h : Classes) (l : Places) (old keys : List EntryKey) (i : ℕ) (d : EntryKey) (shared : Option EntryKey) (done new all : List EntryKey) → i < length keys → shared ≡ find (shares h l (get_or keys i d)) old → new ≡ done ++ own_part (get_or keys i d) shared →
    done ++ new_entries h l old (drop i keys) ≡ all → new ++ new_entries h l old (drop (i + 1) keys) ≡ all
entry_step h l old keys i d shared done new all lt is e inv = pushed_at (new_entries h l old) keys i d (own_part (get_or keys i d) shared) done new all lt (entry_opens h l old (get_or keys i d) (drop (i + 1) keys) shared (sym is)) e inv

pub listed_step : (h : Classes) (l : Places) (old keys : List EntryKey) (i : ℕ) (d : EntryKey) (shared : Option EntryKey) (done new all : List Listing) → i < length keys → shared ≡ find (shares h l (get_or keys i d)) old → new ≡ done ++ listing_of_key (get_or keys i d) shared ∷ [] →
    done ++ listed_all h l old (drop i keys) ≡ all → new ++ listed_all h l old (drop (i + 1) keys) ≡ all
listed_step h l old keys i d shared done new all lt is e inv =
    pushed_at (listed_all h l old) keys i d (listing_of_key (get_or keys i d) shared ∷ []) done new all lt (ap (λ s. listing_of_key (get_or keys i d) s ∷ listed_all h l old (drop (i + 1) keys)) (sym is)) e inv
