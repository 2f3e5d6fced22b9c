-- Addresses that are moved by the word of a distance.
use Rattle.std.proofs.Common.{◌≡◌, ℕ, ◌+◌, ◌-◌, ◌%◌, ◌<◌, ◌^◌, ap, ◌∙◌, arith, pos, ℤ, ◌+ℤ◌}
use Rattle.std.specs.Prelude.{negsuc}
use Rattle.std.proofs.lemmas.Int.{ints}
use Rattle.std.proofs.Math.Nat.{mod-eq_of_lt}
use Rattle.byte_code.specs.Numbers.{word_of}
use Rattle.abi_dyncast.specs.Graph.{moved}

-- an address moved by a distance
pub moved_along : (a b : ℕ) (d : ℤ) → pos a +ℤ d ≡ pos b → a < 2 ^ 64 → b < 2 ^ 64 → moved a (word_of d) ≡ b
moved_along a b (pos n) e low high =
    let sum : a + n ≡ b = omega (arith, ints) in
    let small : n % 18446744073709551616 ≡ n = mod-eq_of_lt (omega arith) in
    ap (λ w. (a + w) % 18446744073709551616) small ∙ (ap (λ k. k % 18446744073709551616) sum ∙ mod-eq_of_lt high)
moved_along a b (negsuc n) e low high =
    let sum : b + (n + 1) ≡ a = omega (arith, ints) in
    let small : n % 18446744073709551616 ≡ n = mod-eq_of_lt (omega arith) in
    let back : a + (18446744073709551616 - 1 - n) ≡ b + 18446744073709551616 = omega arith in
    ap (λ w. (a + (18446744073709551616 - 1 - w)) % 18446744073709551616) small ∙ (ap (λ k. k % 18446744073709551616) back ∙ omega arith)

-- a distance between places is one between addresses
pub moved_between : (start a b : ℕ) (d : ℤ) → pos a +ℤ d ≡ pos b → start + a < 2 ^ 63 → start + b < 2 ^ 63 → moved (start + a) (word_of d) ≡ start + b
moved_between start a b d e low high =
    let sum : pos (start + a) +ℤ d ≡ pos (start + b) = omega (arith, ints) in
    moved_along (start + a) (start + b) d sum (omega arith) (omega arith)
