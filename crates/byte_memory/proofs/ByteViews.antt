-- What loads, stores, copies and closes are in the bytes of a memory.
use Rattle.std.proofs.Common.{◌≡◌, ℕ, zero, suc, ◌+◌, ◌-◌, ◌*◌, ◌/◌, ◌%◌, ◌<◌, ◌≤◌, ◌^◌, ◌⊎◌, inl, inr, ⊎_elim, Option, Some, None, Result, refl, ap, sym, ◌∙◌, arith, mul_assoc, Bool, true, false}
use Rattle.std.specs.Prelude.{nat_le, nat_lt, ◌&&◌, if◌then◌else◌, Ok, Err, IfOk, MatchResult, is_some}
use Rattle.std.proofs.lemmas.Bool.Decides.{nat_tests}
use Rattle.std.proofs.lemmas.Bool.{cases_lt}
use Rattle.std.proofs.lemmas.Nat.{pow-add}
use Rattle.std.proofs.Math.Nat.{pow-succ'}
use Rattle.byte_memory.specs.declared.memory.MemoryFault.{MemoryFault}
use Rattle.byte_memory.specs.declared.memory.MemoryFault.TheVariants.{Unset, Closed, Range, NoMemory}
use Rattle.byte_memory.specs.Bits.{has_bit, with_low, number_from, stored, is_among_places}
use Rattle.byte_memory.specs.Bytes.{with_low_byte, number_from_bytes, stored_bytes, cleared_bytes, with_bytes_copied}
use Rattle.byte_memory.specs.Regions.{fault_at}
use Rattle.byte_memory.specs.Store.{Store, byte_at, answer, set_of, load_of, load_bits_of, store_of, copied_store, open_of, close_of}
use Rattle.byte_memory.proofs.BitLists.{has_bit-number, low_bits}
use Rattle.byte_memory.proofs.BitNumbers.{number_from-same}
use Rattle.byte_memory.proofs.Numbers.{stored_bytes-inside, stored_bytes-outside}
use Rattle.byte_memory.proofs.Reached.{fault_at-reached}

-- a number of m bits before another one, where both are set
abbrev joined : ℕ → Option ℕ → Option ℕ → Option ℕ
joined m None high = None
joined m (Some low) None = None
joined m (Some low) (Some high) = Some (low + 2 ^ m * high)

joined-none : (high : Option ℕ) → joined 0 (Some 0) high ≡ high
joined-none None = refl
joined-none (Some high) = let e : 0 + 2 ^ 0 * high ≡ high = omega arith in ap Some e

joined-more : (m : ℕ) (first : Option Bool) (low high : Option ℕ) → with_low first (joined m low high) ≡ joined (suc m) (with_low first low) high
joined-more m None low high = refl
joined-more m (Some b) None high = refl
joined-more m (Some b) (Some low) None = refl
joined-more m (Some b) (Some low) (Some high) =
    let power : 2 ^ 1 * 2 ^ m ≡ 2 ^ (1 + m) = sym (pow-add 2 1 m) in
    let more : 1 + m ≡ suc m = omega arith in
    let power' : 2 * 2 ^ m ≡ 2 ^ suc m = power ∙ ap (λ k. 2 ^ k) more in
    let high' : 2 * (2 ^ m * high) ≡ 2 ^ suc m * high = sym (mul_assoc 2 (2 ^ m) high) ∙ ap (λ x. x * high) power' in
    ap Some (omega (arith, high'))

-- a number in two parts
number_from-split : (m n : ℕ) (bit : ℕ → Option Bool) (at : ℕ) → number_from bit at (m + n) ≡ joined m (number_from bit at m) (number_from bit (at + m) n)
number_from-split zero n bit at =
    let here : at + 0 ≡ at = omega arith in
    let all : 0 + n ≡ n = omega arith in
    ap (number_from bit at) all ∙ (sym (joined-none (number_from bit at n)) ∙ ap (λ a. joined 0 (Some 0) (number_from bit a n)) (sym here))
number_from-split (suc m) n bit at =
    let more : suc m + n ≡ suc (m + n) = omega arith in
    let there : (at + 1) + m ≡ at + suc m = omega arith in
    ap (number_from bit at) more
    ∙ (ap (with_low (bit at)) (number_from-split m n bit (at + 1))
    ∙ (joined-more m (bit at) (number_from bit (at + 1) m) (number_from bit ((at + 1) + m) n)
    ∙ ap (λ a. joined (suc m) (number_from bit at (suc m)) (number_from bit a n)) there))

joined-byte : (low high : Option ℕ) → joined 8 low high ≡ with_low_byte low high
joined-byte None high = refl
joined-byte (Some low) None = refl
joined-byte (Some low) (Some high) = refl

-- a number by its bits is that by its bytes
pub number_from-bytes : (n : ℕ) (memory : Store) (at : ℕ) → number_from memory.bit (8 * at) (8 * n) ≡ number_from_bytes (byte_at memory) at n
unfolding byte_at
number_from-bytes zero memory at = refl
number_from-bytes (suc n) memory at =
    let more : 8 * suc n ≡ 8 + 8 * n = omega arith in
    let there : 8 * at + 8 ≡ 8 * (at + 1) = omega arith in
    ap (number_from memory.bit (8 * at)) more
    ∙ (number_from-split 8 (8 * n) memory.bit (8 * at)
    ∙ (joined-byte (byte_at memory at) (number_from memory.bit (8 * at + 8) (8 * n))
    ∙ ap (with_low_byte (byte_at memory at)) (ap (λ a. number_from memory.bit a (8 * n)) there ∙ number_from-bytes n memory (at + 1))))

-- a load answers by the number in the bytes
pub load_of-bytes : (memory : Store) (at n : ℕ) → load_of memory at n ≡ answer at (fault_at memory.regions at n) (number_from_bytes (byte_at memory) at n)
load_of-bytes memory at n = ap (answer at (fault_at memory.regions at n)) (number_from-bytes n memory at)

-- a byte depends on its bits alone
byte_at-same : (memory memory' : Store) (a a' : ℕ) → ((k : ℕ) → k < 8 → memory.bit (8 * a + k) ≡ memory'.bit (8 * a' + k)) → byte_at memory a ≡ byte_at memory' a'
unfolding byte_at
byte_at-same memory memory' a a' same = number_from-same 8 memory.bit memory'.bit (8 * a) (8 * a') same

-- a byte with an unset lowest bit is unset
pub byte_at-unset : (memory : Store) (a : ℕ) → memory.bit (8 * a) ≡ None → byte_at memory a ≡ None
unfolding byte_at
byte_at-unset memory a unset = ap (λ b. with_low b (number_from memory.bit (8 * a + 1) 7)) unset

-- the number in some of the stored bits
number_from-stored : (m : ℕ) (bit : ℕ → Option Bool) (at n value j : ℕ) → j + m ≤ n → number_from (stored bit at n value) (at + j) m ≡ Some (value / 2 ^ j % 2 ^ m)
number_from-stored zero bit at n value j within = let e : 0 ≡ value / 2 ^ j % 1 = omega arith in ap Some e
number_from-stored (suc m) bit at n value j within =
    let inside : is_among_places at n (at + j) ≡ true = grind (arith, nat_tests) in
    let back : (at + j) - at ≡ j = omega arith in
    let first : stored bit at n value (at + j) ≡ Some (has_bit value j) = rw (inside, back) refl in
    let there : (at + j) + 1 ≡ at + (j + 1) = omega arith in
    let others : number_from (stored bit at n value) ((at + j) + 1) m ≡ Some (value / 2 ^ (j + 1) % 2 ^ m) = ap (λ a. number_from (stored bit at n value) a m) there ∙ number_from-stored m bit at n value (j + 1) (omega arith) in
    ap (λ x. with_low x (number_from (stored bit at n value) ((at + j) + 1) m)) first
    ∙ (ap (with_low (Some (has_bit value j))) others
    ∙ ap Some (ap (λ x. x + 2 * (value / 2 ^ (j + 1) % 2 ^ m)) (has_bit-number value j) ∙ low_bits value j m))

store_byte-inside : (memory : Store) (at n value j : ℕ) → j < n → byte_at (store_of memory at n value) (at + j) ≡ Some (value / 2 ^ (8 * j) % 256)
unfolding byte_at
store_byte-inside memory at n value j less =
    let there : 8 * (at + j) ≡ 8 * at + 8 * j = omega arith in
    ap (λ a. number_from (stored memory.bit (8 * at) (8 * n) value) a 8) there ∙ number_from-stored 8 memory.bit (8 * at) (8 * n) value (8 * j) (omega arith)

-- the bytes after a store
pub byte_at-store : (memory : Store) (at n value : ℕ) → byte_at (store_of memory at n value) ≡ stored_bytes (byte_at memory) at n value
byte_at-store memory at n value = λ i a. pointwise a i
  where
    outside : (a : ℕ) → (a < at) ⊎ (at + n ≤ a) → byte_at (store_of memory at n value) a ≡ stored_bytes (byte_at memory) at n value a
    outside a out = byte_at-same (store_of memory at n value) memory a a (λ k less. let test : is_among_places (8 * at) (8 * n) (8 * a + k) ≡ false = ⊎_elim (λ l. grind (arith, nat_tests)) (λ r. grind (arith, nat_tests)) out in rw test refl)
        ∙ sym (stored_bytes-outside n (byte_at memory) at value a out)

    inside : (a : ℕ) → at ≤ a → a < at + n → byte_at (store_of memory at n value) a ≡ stored_bytes (byte_at memory) at n value a
    inside a more less =
        let there : at + (a - at) ≡ a = omega arith in
        ap (byte_at (store_of memory at n value)) (sym there) ∙ (store_byte-inside memory at n value (a - at) (omega arith) ∙ (sym (stored_bytes-inside n (byte_at memory) at value (a - at) (omega arith)) ∙ ap (stored_bytes (byte_at memory) at n value) there))

    pointwise : (a : ℕ) → byte_at (store_of memory at n value) a ≡ stored_bytes (byte_at memory) at n value a
    pointwise a = ⊎_elim (λ l. outside a (inl l)) (λ more. ⊎_elim (inside a more) (λ r. outside a (inr r)) (cases_lt a (at + n))) (cases_lt a at)

-- the bytes after a copy
pub byte_at-copy : (memory : Store) (from to n : ℕ) → byte_at (copied_store memory from to n) ≡ with_bytes_copied (byte_at memory) from to n
byte_at-copy memory from to n = λ i a. pointwise a i
  where
    by_test : (a : ℕ) (z : Bool) → (nat_le to a && nat_lt a (to + n)) ≡ z → byte_at (copied_store memory from to n) a ≡ (if z then byte_at memory (from + (a - to)) else byte_at memory a)
    by_test a true t = byte_at-same (copied_store memory from to n) memory a (from + (a - to)) (λ k less.
        let test : is_among_places (8 * to) (8 * n) (8 * a + k) ≡ true = grind (arith, nat_tests) in
        let more : to ≤ a = grind (arith, nat_tests) in
        let there : 8 * from + ((8 * a + k) - 8 * to) ≡ 8 * (from + (a - to)) + k = omega arith in
        rw test (ap memory.bit there))
    by_test a false t = byte_at-same (copied_store memory from to n) memory a a (λ k less. let test : is_among_places (8 * to) (8 * n) (8 * a + k) ≡ false = grind (arith, nat_tests) in rw test refl)

    pointwise : (a : ℕ) → byte_at (copied_store memory from to n) a ≡ with_bytes_copied (byte_at memory) from to n a
    pointwise a = by_test a (nat_le to a && nat_lt a (to + n)) refl

-- the bytes after a region was opened
pub byte_at-open : (memory : Store) (at size : ℕ) → byte_at (open_of memory at size) ≡ byte_at memory
unfolding byte_at
byte_at-open memory at size = refl

-- the bytes after a region was closed
pub byte_at-close : (memory : Store) (at size : ℕ) → byte_at (close_of memory at size) ≡ cleared_bytes (byte_at memory) at size
byte_at-close memory at size = λ i a. pointwise a i
  where
    none : (a : ℕ) → (close_of memory at size).bit (8 * a) ≡ None → byte_at (close_of memory at size) a ≡ None
    none a unset = byte_at-unset (close_of memory at size) a unset

    by_test : (a : ℕ) (z : Bool) → (nat_le at a && nat_lt a (at + size)) ≡ z → byte_at (close_of memory at size) a ≡ (if z then None else byte_at memory a)
    by_test a true t = none a (let test : is_among_places (8 * at) (8 * size) (8 * a) ≡ true = grind (arith, nat_tests) in rw test refl)
    by_test a false t = byte_at-same (close_of memory at size) memory a a (λ k less. let test : is_among_places (8 * at) (8 * size) (8 * a + k) ≡ false = grind (arith, nat_tests) in rw test refl)

    pointwise : (a : ℕ) → byte_at (close_of memory at size) a ≡ cleared_bytes (byte_at memory) at size a
    pointwise a = by_test a (nat_le at a && nat_lt a (at + size)) refl

pub power_of_bytes : (n : ℕ) → 2 ^ (8 * n) ≡ 256 ^ n
power_of_bytes zero = refl
power_of_bytes (suc n) =
    let more : 8 * suc n ≡ 8 + 8 * n = omega arith in
    let split : 2 ^ (8 + 8 * n) ≡ 2 ^ 8 * 2 ^ (8 * n) = pow-add 2 8 (8 * n) in
    ap (λ k. 2 ^ k) more ∙ (split ∙ (ap (λ x. 256 * x) (power_of_bytes n) ∙ sym (pow-succ' 256 n)))

-- a number of so many bits fits the bytes
pub fits-bytes : (loaded : Result ℕ MemoryFault) (n : ℕ) → IfOk loaded (λ number. number < 2 ^ (8 * n)) → IfOk loaded (λ number. number < 256 ^ n)
fits-bytes (Ok number) n fits = rw (← power_of_bytes n) fits
fits-bytes (Err fault) n fits = fits

-- whether a byte is set, by a load of its bits
pub set_of-byte : (memory : Store) (at : ℕ) (loaded : Result ℕ MemoryFault) (set : Result Bool MemoryFault) → loaded ≡ load_bits_of memory at 0 8 → set ≡ set_of loaded →
    MatchResult set (λ z. (fault_at memory.regions at 1 ≡ None) × (z ≡ is_some (byte_at memory at))) (λ fault. fault_at memory.regions at 1 ≡ Some fault)
unfolding byte_at
set_of-byte memory at loaded set e f =
    let here : 8 * at + 0 ≡ 8 * at = omega arith in
    let same : load_bits_of memory at 0 8 ≡ answer at (fault_at memory.regions at 1) (number_from memory.bit (8 * at) 8) = ap (λ a. answer at (fault_at memory.regions at 1) (number_from memory.bit a 8)) here in
    by_cases (fault_at memory.regions at 1) (number_from memory.bit (8 * at) 8) set refl (f ∙ ap set_of (e ∙ same))
  where
    by_cases : (fault : Option MemoryFault) (number : Option ℕ) (set : Result Bool MemoryFault) → fault_at memory.regions at 1 ≡ fault → set ≡ set_of (answer at fault number) →
        MatchResult set (λ z. (fault ≡ None) × (z ≡ is_some number)) (λ f. fault ≡ Some f)
    by_cases (Some (Closed a)) number set t e = rw e refl
    by_cases (Some (Range a)) number set t e = rw e refl
    by_cases (Some NoMemory) number set t e = rw e refl
    by_cases (Some (Unset a)) number set t e = absurd (fault_at-reached memory.regions at 1 a t)
    by_cases None (Some number) set t e = rw e (refl, refl)
    by_cases None None set t e = rw e (refl, refl)
