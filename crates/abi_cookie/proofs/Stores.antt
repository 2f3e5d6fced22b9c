-- What a memory holds of an array: a new region, its count, and what stays.
use Rattle.std.proofs.Common.{◌≡◌, ℕ, zero, suc, ◌+◌, ◌-◌, ◌*◌, ◌%◌, ◌^◌, ◌<◌, ◌≤◌, ⊎_elim, Bool, true, false, Option, Some, None, List, [], ◌∷◌, ◌++◌, length, refl, ap, sym, ◌∙◌, arith, subst, All}
use Rattle.std.specs.Prelude.{slice_get, nat_eq, if◌then◌else◌, Ok, Err, Result, MatchResult}
use Rattle.std.specs.List.{find}
use Rattle.std.proofs.lemmas.Bool.Decides.{nat_tests}
use Rattle.std.proofs.Math.Nat.{mod-eq_of_lt}
use Rattle.std.proofs.lemmas.List.Elements.{All-push}
use Rattle.std.proofs.lemmas.Option.{slice_get_within, get_or_from_slice_get}
use Rattle.foundation.proofs.Places.{get_last}
use Rattle.byte_memory.specs.declared.memory.Region.{Region}
use Rattle.byte_memory.specs.declared.memory.MemoryFault.{MemoryFault}
use Rattle.byte_memory.specs.Bits.{number_from, stored}
use Rattle.byte_memory.specs.Regions.{starts, fault_at, IsAscending}
use Rattle.byte_memory.specs.Store.{Store, empty, IsRoom, answer, load_of, store_of, open_of}
use Rattle.byte_memory.proofs.Ascending.{IsAscendingBy-push}
use Rattle.byte_memory.proofs.Lists.{find-first, slice_get-push_cases}
use Rattle.byte_memory.proofs.Reached.{fault_at-inside}
use Rattle.byte_memory.proofs.ByBits.{number_from-stored_bytes}
use Rattle.abi_cookie.specs.Cookies.{array_bytes}
use Rattle.abi_cookie.specs.Arrays.{AreOpened, IsArray, MakesArray, count_stored}

-- the region that was opened
abbrev pub opened : ℕ → ℕ → Region
opened start bytes = record { start = start; size = bytes; is_open = true }

-- its bytes can be reached
pub opened-reached : (old : Store) (start bytes at n : ℕ) → IsAscending old.regions → IsRoom old start bytes → 0 < n → start ≤ at → at + n ≤ start + bytes → fault_at (open_of old start bytes).regions at n ≡ None
opened-reached old start bytes at n up room some low high =
    fault_at-inside (old.regions ++ opened start bytes ∷ []) (length old.regions) (opened start bytes) at n
    (IsAscendingBy-push (λ (region : Region). region.start) (λ (region : Region). region.size) old.regions (opened start bytes) up room.above)
    (get_last old.regions (opened start bytes)) refl some low high

-- a store that can reach its bytes is not refused
pub store-done : {U : Type 0} (result : Result U MemoryFault) (old new : Store) (at n value : ℕ) → fault_at old.regions at n ≡ None →
    MatchResult result
    (λ _. (fault_at old.regions at n ≡ None) × (new ≡ store_of old at n value))
    (λ fault. (fault_at old.regions at n ≡ Some fault) × (new ≡ old)) →
    new ≡ store_of old at n value
store-done (Ok done) old new at n value reached is = is.1
store-done (Err fault) old new at n value reached is = let e : None ≡ Some fault = sym reached ∙ is.0 in cc

-- what was stored is read back
pub load-stored : (memory : Store) (at n value : ℕ) → fault_at memory.regions at n ≡ None → value < 256 ^ n → load_of (store_of memory at n value) at n ≡ Ok value
load-stored memory at n value reached fits =
    let small : value % 256 ^ n ≡ value = mod-eq_of_lt fits in
    ap (λ (fault : Option MemoryFault). answer at fault (number_from (stored memory.bit (8 * at) (8 * n) value) (8 * at) (8 * n))) reached
    ∙ ap (answer at None) (number_from-stored_bytes n memory.bit at value ∙ ap Some small)

-- the regions do not change when the count is stored
pub counted-regions : (memory : Store) (cookie n first : ℕ) → (count_stored memory cookie n first).regions ≡ memory.regions
counted-regions memory cookie n first = by_test (nat_eq cookie 0)
  where
    by_test : (b : Bool) → (if b then memory else store_of memory (first - 8) 8 n).regions ≡ memory.regions
    by_test true = refl
    by_test false = refl

counted-some : (memory : Store) (cookie n first : ℕ) → 0 < cookie → count_stored memory cookie n first ≡ store_of memory (first - 8) 8 n
counted-some memory cookie n first some =
    let test : nat_eq cookie 0 ≡ false = grind (arith, nat_tests) in
    ap (λ (b : Bool). if b then memory else store_of memory (first - 8) 8 n) test

all-at : {X : Type 0} (P : X → Type 0) (xs : List X) (k : ℕ) (x : X) → All P xs → slice_get xs k ≡ Some x → P x
all-at P xs k x all here = subst P (get_or_from_slice_get xs k x x here) (all k x (slice_get_within xs k x here))

same-start : (a : ℕ) → nat_eq a a ≡ true
same-start a = grind (arith, nat_tests)

differ : (a size b : ℕ) → a + size ≤ b → 0 < size → nat_eq a b ≡ false
differ a size b low some = grind (arith, nat_tests)

-- no earlier region starts at the new one
find-behind : (rs : List Region) (new : Region) → All (λ (region : Region). region.start + region.size ≤ new.start) rs → All (λ (region : Region). 0 < region.size) rs → find (starts new.start) (rs ++ new ∷ []) ≡ Some new
find-behind rs new above sizes =
    find-first (starts new.start) (rs ++ new ∷ []) (length rs) new (get_last rs new) (same-start new.start) (λ k y before there.
    ⊎_elim (λ last. absurd (let e : k ≡ length rs = last.0 in omega arith))
    (λ earlier. differ y.start y.size new.start (all-at (λ (region : Region). region.start + region.size ≤ new.start) rs k y above earlier) (all-at (λ (region : Region). 0 < region.size) rs k y sizes earlier))
    (slice_get-push_cases rs new k y there))

-- a cookie has room for the count
pub wide-cookie : (cookie : ℕ) → cookie % 8 ≡ 0 → 0 < cookie → 8 ≤ cookie
wide-cookie cookie multiple some = omega arith

-- the bytes of the count can be reached where the region was opened
pub reached-count : (old mid : Store) (start size cookie n : ℕ) → IsAscending old.regions → IsRoom old start (array_bytes size cookie n) → mid ≡ open_of old start (array_bytes size cookie n) → cookie % 8 ≡ 0 → 0 < cookie →
    fault_at mid.regions (start + cookie - 8) 8 ≡ None
reached-count old mid start size cookie n up room is multiple some =
    ap (λ (memory : Store). fault_at memory.regions (start + cookie - 8) 8) is
    ∙ opened-reached old start (array_bytes size cookie n) (start + cookie - 8) 8 up room (omega arith) (low (wide-cookie cookie multiple some)) (high (wide-cookie cookie multiple some))
  where
    low : 8 ≤ cookie → start ≤ start + cookie - 8
    low wide = omega arith

    high : 8 ≤ cookie → (start + cookie - 8) + 8 ≤ start + (cookie + n * size)
    high wide = omega arith

-- each region has a byte after an array was made
pub made-opened : (old new : Store) (size cookie n first : ℕ) → 1 ≤ size → 1 ≤ n → AreOpened old → MakesArray old new size cookie n first → AreOpened new
made-opened old new size cookie n first some_size some are made =
    let same : new.regions ≡ old.regions ++ opened made.start (array_bytes size cookie n) ∷ [] = ap (λ (memory : Store). memory.regions) made.new_is ∙ counted-regions (open_of old made.start (array_bytes size cookie n)) cookie n first in
    record {
      sizes = subst (λ (rs : List Region). All (λ (region : Region). 0 < region.size) rs) (sym same)
          (All-push (λ (region : Region). 0 < region.size) old.regions (opened made.start (array_bytes size cookie n)) are.sizes (positive size cookie n some_size some));
    }
  where
    positive : (size cookie n : ℕ) → 1 ≤ size → 1 ≤ n → 0 < cookie + n * size
    positive size cookie (suc n) some_size some = let e : suc n * size ≡ n * size + size = omega arith in omega arith
    positive size cookie zero some_size some = absurd (omega arith)

-- the count of an array that was made can be read
pub stored-count : (old new : Store) (size cookie n first : ℕ) → IsAscending old.regions → n < 2 ^ 32 → cookie % 8 ≡ 0 → MakesArray old new size cookie n first → 0 < cookie → load_of new (first - 8) 8 ≡ Ok n
stored-count old new size cookie n first up few multiple made more =
    let mid : Store = open_of old made.start (array_bytes size cookie n) in
    let reached : fault_at mid.regions (first - 8) 8 ≡ None = ap (λ (k : ℕ). fault_at mid.regions (k - 8) 8) made.behind ∙ reached-count old mid made.start size cookie n up made.room refl multiple more in
    ap (λ (memory : Store). load_of memory (first - 8) 8) (made.new_is ∙ counted-some mid cookie n first more)
    ∙ load-stored mid (first - 8) 8 n reached (small few)
  where
    small : n < 2 ^ 32 → n < 256 ^ 8
    small less = omega arith

-- after an array was made it is there
pub made-array : (old new : Store) (size cookie n first : ℕ) → IsAscending old.regions → AreOpened old → 1 ≤ n → n < 2 ^ 32 → cookie % 8 ≡ 0 → MakesArray old new size cookie n first → IsArray new size cookie n first
made-array old new size cookie n first up are some few multiple made =
    record {
      some = some;
      region = opened made.start (array_bytes size cookie n);
      there = ap (find (starts made.start)) same ∙ find-behind old.regions (opened made.start (array_bytes size cookie n)) made.room.above are.sizes;
      behind = made.behind;
      length = refl;
      below = below made.start made.behind made.room.limit;
      count = λ more is_open. stored-count old new size cookie n first up few multiple made more;
    }
  where
    same : new.regions ≡ old.regions ++ opened made.start (array_bytes size cookie n) ∷ []
    same = ap (λ (memory : Store). memory.regions) made.new_is ∙ counted-regions (open_of old made.start (array_bytes size cookie n)) cookie n first

    below : (start : ℕ) → first ≡ start + cookie → start + (cookie + n * size) < 2 ^ 41 → first + n * size < 2 ^ 41
    below start is limit = omega arith

-- in an empty memory no region lies wrong
pub empty-ascends : (memory : Store) → memory ≡ empty → IsAscending memory.regions
empty-ascends memory is = subst (λ (m : Store). IsAscending m.regions) (sym is) none
  where
    none : IsAscending []
    none i j x y less here there = cc

pub empty-opened : (memory : Store) → memory ≡ empty → AreOpened memory
empty-opened memory is = subst (λ (m : Store). AreOpened m) (sym is) (record { sizes = λ k d lt. absurd (omega arith) })
