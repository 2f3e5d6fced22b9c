-- What stores and copies of bits leave as it was, and what they give.
use Rattle.std.proofs.Common.{◌≡◌, ℕ, ◌+◌, ◌-◌, ◌*◌, ◌<◌, ◌≤◌, ◌%◌, ◌^◌, ◌⊎◌, inl, inr, ⊎_elim, Option, Some, ap, ◌∙◌, arith, Bool, true, false}
use Rattle.std.specs.Prelude.{if◌then◌else◌, []}
use Rattle.std.proofs.lemmas.Bool.Decides.{nat_tests}
use Rattle.byte_memory.specs.Bits.{has_bit, number_from, stored, with_bits_copied, is_among_places}
use Rattle.byte_memory.specs.Bytes.{number_from_bytes}
use Rattle.byte_memory.specs.Store.{Store, byte_at, store_of}
use Rattle.byte_memory.proofs.BitNumbers.{number_from-same}
use Rattle.byte_memory.proofs.ByteViews.{number_from-bytes, byte_at-store}
use Rattle.byte_memory.proofs.Numbers.{number_from_bytes-stored_same}

-- a place outside of a range is not among its places
not_among : (at n place : ℕ) → (place < at) ⊎ (at + n ≤ place) → is_among_places at n place ≡ false
not_among at n place outside = ⊎_elim (λ (less : place < at). grind (arith, nat_tests)) (λ (more : at + n ≤ place). grind (arith, nat_tests)) outside

-- a number whose bits have not changed is the same
pub number_from-kept : (n : ℕ) (bit' bit : ℕ → Option Bool) (at : ℕ) → ((place : ℕ) → at ≤ place → place < at + n → bit' place ≡ bit place) → number_from bit' at n ≡ number_from bit at n
number_from-kept n bit' bit at kept = number_from-same n bit' bit at at (λ k less. kept (at + k) (omega arith) (omega arith))

-- a store changes no other bit
pub stored-outside : (n : ℕ) (bit : ℕ → Option Bool) (at value place : ℕ) → (place < at) ⊎ (at + n ≤ place) → stored bit at n value place ≡ bit place
stored-outside n bit at value place outside = ap (λ b. if b then Some (has_bit value (place - at)) else bit place) (not_among at n place outside)

pub number_from-stored_other : (n m : ℕ) (bit : ℕ → Option Bool) (at there value : ℕ) → (there + m ≤ at) ⊎ (at + n ≤ there) → number_from (stored bit at n value) there m ≡ number_from bit there m
number_from-stored_other n m bit at there value apart = number_from-kept m (stored bit at n value) bit there
    (λ place low high. stored-outside n bit at value place (⊎_elim (λ (before : there + m ≤ at). inl (omega arith)) (λ (behind : at + n ≤ there). inr (omega arith)) apart))

-- the number in bytes that were stored
pub number_from-stored_bytes : (n : ℕ) (bit : ℕ → Option Bool) (at value : ℕ) → number_from (stored bit (8 * at) (8 * n) value) (8 * at) (8 * n) ≡ Some (value % 256 ^ n)
number_from-stored_bytes n bit at value =
    let memory : Store = record { regions = []; bit = bit } in
    number_from-bytes n (store_of memory at n value) at
    ∙ (ap (λ (byte : ℕ → Option ℕ). number_from_bytes byte at n) (byte_at-store memory at n value)
    ∙ number_from_bytes-stored_same n (byte_at memory) at value)

-- a copy changes no other bit, and gives each of its own what stood at the place from which it was taken
pub copied-outside : (bit : ℕ → Option Bool) (from to n place : ℕ) → (place < to) ⊎ (to + n ≤ place) → with_bits_copied bit from to n place ≡ bit place
copied-outside bit from to n place outside = ap (λ b. if b then bit (from + (place - to)) else bit place) (not_among to n place outside)

pub copied-inside : (bit : ℕ → Option Bool) (from to n i : ℕ) → i < n → with_bits_copied bit from to n (to + i) ≡ bit (from + i)
copied-inside bit from to n i less =
    let inside : is_among_places to n (to + i) ≡ true = grind (arith, nat_tests) in
    let back : (to + i) - to ≡ i = omega arith in
    ap (λ b. if b then bit (from + ((to + i) - to)) else bit (to + i)) inside ∙ ap (λ k. bit (from + k)) back

pub number_from-copied_same : (n : ℕ) (bit : ℕ → Option Bool) (from to : ℕ) → number_from (with_bits_copied bit from to n) to n ≡ number_from bit from n
number_from-copied_same n bit from to = number_from-same n (with_bits_copied bit from to n) bit to from (λ k less. copied-inside bit from to n k less)

pub number_from-copied_other : (n m : ℕ) (bit : ℕ → Option Bool) (from to there : ℕ) → (there + m ≤ to) ⊎ (to + n ≤ there) → number_from (with_bits_copied bit from to n) there m ≡ number_from bit there m
number_from-copied_other n m bit from to there apart = number_from-kept m (with_bits_copied bit from to n) bit there
    (λ place low high. copied-outside bit from to n place (⊎_elim (λ (before : there + m ≤ to). inl (omega arith)) (λ (behind : to + n ≤ there). inr (omega arith)) apart))
