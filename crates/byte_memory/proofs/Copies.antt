-- What a copy gives: byte by byte, and of the numbers that stand in bytes.
use Rattle.std.proofs.Common.{◌≡◌, ℕ, zero, suc, ◌+◌, ◌-◌, ◌<◌, ◌≤◌, ◌⊎◌, inl, inr, ⊎_elim, Option, refl, ap, ◌∙◌, arith, true, false}
use Rattle.std.specs.Prelude.{nat_le, nat_lt, ◌&&◌}
use Rattle.std.proofs.lemmas.Bool.Decides.{nat_tests}
use Rattle.byte_memory.specs.Bytes.{number_from_bytes, with_bytes_copied}
use Rattle.byte_memory.proofs.Numbers.{number_from_bytes-same}

-- a copied byte is the one at its source
pub copied_bytes-inside : (b : ℕ → Option ℕ) (from to n j : ℕ) → j < n → with_bytes_copied b from to n (to + j) ≡ b (from + j)
copied_bytes-inside b from to n j less =
    let inside : (nat_le to (to + j) && nat_lt (to + j) (to + n)) ≡ true = grind (arith, nat_tests) in
    let back : from + ((to + j) - to) ≡ from + j = omega arith in
    rw (inside, back) refl

-- a copy leaves each other byte
pub copied_bytes-outside : (b : ℕ → Option ℕ) (from to n a : ℕ) → (a < to) ⊎ (to + n ≤ a) → with_bytes_copied b from to n a ≡ b a
copied_bytes-outside b from to n a h = let outside : (nat_le to a && nat_lt a (to + n)) ≡ false = grind (arith, nat_tests) in rw outside refl

-- the number in some of the copied bytes is the one at their source
pub number_from_bytes-copied_part : (m : ℕ) (b : ℕ → Option ℕ) (from to n j : ℕ) → j + m ≤ n → number_from_bytes (with_bytes_copied b from to n) (to + j) m ≡ number_from_bytes b (from + j) m
number_from_bytes-copied_part zero b from to n j within = refl
number_from_bytes-copied_part (suc m) b from to n j within =
    let here : with_bytes_copied b from to n (to + j) ≡ b (from + j) = copied_bytes-inside b from to n j (omega arith) in
    let there : (to + j) + 1 ≡ to + (j + 1) = omega arith in
    let back : (from + j) + 1 ≡ from + (j + 1) = omega arith in
    let rest : number_from_bytes (with_bytes_copied b from to n) (to + (j + 1)) m ≡ number_from_bytes b (from + (j + 1)) m = number_from_bytes-copied_part m b from to n (j + 1) (omega arith) in
    rw (here, there, back, rest) refl

-- what was copied is loaded
pub number_from_bytes-copied_same : (n : ℕ) (b : ℕ → Option ℕ) (from to : ℕ) → number_from_bytes (with_bytes_copied b from to n) to n ≡ number_from_bytes b from n
number_from_bytes-copied_same n b from to =
    let there : to ≡ to + 0 = omega arith in
    let back : from + 0 ≡ from = omega arith in
    ap (λ a. number_from_bytes (with_bytes_copied b from to n) a n) there ∙ (number_from_bytes-copied_part n b from to n 0 (omega arith) ∙ ap (λ a. number_from_bytes b a n) back)

-- a copy beside a number leaves it
pub number_from_bytes-copied_other : (n m : ℕ) (b : ℕ → Option ℕ) (from to there : ℕ) → (there + m ≤ to) ⊎ (to + n ≤ there) → number_from_bytes (with_bytes_copied b from to n) there m ≡ number_from_bytes b there m
number_from_bytes-copied_other n m b from to there h =
    number_from_bytes-same m (with_bytes_copied b from to n) b there (λ a low high. copied_bytes-outside b from to n a (⊎_elim (λ l. inl (omega arith)) (λ l. inr (omega arith)) h))
