-- Words of distances, and addresses moved by them.
use Rattle.std.proofs.Common.{◌≡◌, ℕ, ◌+◌, ◌-◌, ◌*◌, ◌%◌, ◌<◌, ◌^◌, ap, ◌∙◌, arith, pos, ℤ, ◌+ℤ◌}
use Rattle.std.specs.Prelude.{negsuc, ◌-ℤ◌, ◌*ℤ◌}
use Rattle.std.proofs.lemmas.Int.{ints}
use Rattle.std.proofs.Math.Nat.{mod-eq_of_lt}
use Rattle.byte_code.specs.Numbers.{word_of}
use Rattle.abi_slots.specs.Groups.{offset_bytes}
use Rattle.abi_slots.specs.Slots.{word_number}
use Rattle.byte_machine.specs.Running.{moved}
use Rattle.byte_machine.specs.Plans.{word_offset}

-- distances

pub moved_up : (a n : ℕ) → a + n < 2 ^ 64 → moved a n ≡ a + n
moved_up a n low = mod-eq_of_lt low

pub small_word : (n : ℕ) → n < 2 ^ 64 → word_of (pos n) ≡ n
small_word n low = mod-eq_of_lt low

-- words before an address point

-- so many bytes before it
pub moved_back : (point at k : ℕ) → at + k ≡ point → 0 < k → point < 2 ^ 64 → moved point (18446744073709551616 - k) ≡ at
moved_back point at k e some low = omega arith

-- the word of a number below 0
back_word : (z : ℤ) (n : ℕ) → z +ℤ pos n ≡ pos 0 → 0 < n → n < 2 ^ 64 → word_of z ≡ 18446744073709551616 - n
back_word (pos a) n e some low = absurd (omega (arith, ints))
back_word (negsuc a) n e some low =
    let is : a + 1 ≡ n = omega (arith, ints) in
    let small : a % 18446744073709551616 ≡ a = mod-eq_of_lt (omega arith) in
    ap (λ w. 18446744073709551616 - 1 - w) small ∙ omega arith

pub number_word : (n : ℕ) → 8 * (n + 3) < 2 ^ 64 → word_offset (word_number n) ≡ 18446744073709551616 - 8 * (n + 3)
number_word n low = back_word (pos 8 *ℤ (pos 0 -ℤ pos (n + 3))) (8 * (n + 3)) (omega (arith, ints)) (omega arith) low

pub offset_word : (n : ℕ) → 8 * (n + 3) < 2 ^ 64 → word_of (offset_bytes n) ≡ 18446744073709551616 - 8 * (n + 3)
offset_word n low = back_word (pos 0 -ℤ pos (8 * (n + 3))) (8 * (n + 3)) (omega (arith, ints)) (omega arith) low
