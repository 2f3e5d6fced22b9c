-- Numbers in bytes.
use Rattle.std.proofs.Common.{◌≡◌, ℕ, zero, suc, ◌+◌, ◌*◌, ◌/◌, ◌%◌, ◌<◌, ◌≤◌, ◌^◌, ◌⊎◌, inl, inr, ⊎_elim, Option, Some, refl, ap, ◌∙◌, arith}
use Rattle.std.specs.Prelude.{nat_eq, true, false}
use Rattle.std.proofs.lemmas.Bool.Decides.{nat_tests}
use Rattle.std.proofs.Math.Nat.{pow-succ', div-add-mod, mod-lt, one-le-pow}
use Rattle.std.proofs.lemmas.Nat.{mod-mul-add, shr-shr}
use Rattle.byte_memory.specs.Bytes.{number_from_bytes, stored_bytes, put_byte}

put_byte-same : (b : ℕ → Option ℕ) (at : ℕ) (x : Option ℕ) → put_byte b at x at ≡ x
put_byte-same b at x = let e : nat_eq at at ≡ true = grind (arith, nat_tests) in rw e refl

-- a store leaves each other byte
pub stored_bytes-outside : (n : ℕ) (b : ℕ → Option ℕ) (at value a : ℕ) → (a < at) ⊎ (at + n ≤ a) → stored_bytes b at n value a ≡ b a
stored_bytes-outside zero b at value a h = refl
stored_bytes-outside (suc n) b at value a h =
    let there : (a < at + 1) ⊎ ((at + 1) + n ≤ a) = ⊎_elim (λ l. inl (omega arith)) (λ l. inr (omega arith)) h in
    let other : nat_eq a at ≡ false = grind (arith, nat_tests) in
    let e : put_byte b at (Some (value % 256)) a ≡ b a = rw other refl in
    stored_bytes-outside n (put_byte b at (Some (value % 256))) (at + 1) (value / 256) a there ∙ e

-- a byte that was stored
pub stored_bytes-inside : (n : ℕ) (b : ℕ → Option ℕ) (at value j : ℕ) → j < n → stored_bytes b at n value (at + j) ≡ Some (value / 2 ^ (8 * j) % 256)
stored_bytes-inside zero b at value j less = absurd (omega arith)
stored_bytes-inside (suc n) b at value zero less =
    let here : at + 0 ≡ at = omega arith in
    let first : value % 256 ≡ value / 2 ^ (8 * 0) % 256 = omega arith in
    let b' = put_byte b at (Some (value % 256)) in
    ap (stored_bytes b' (at + 1) n (value / 256)) here ∙ (stored_bytes-outside n b' (at + 1) (value / 256) at (inl (omega arith)) ∙ (put_byte-same b at (Some (value % 256)) ∙ ap Some first))
stored_bytes-inside (suc n) b at value (suc j) less =
    let there : at + suc j ≡ (at + 1) + j = omega arith in
    let b' = put_byte b at (Some (value % 256)) in
    let shift : value / 2 ^ 8 / 2 ^ (8 * j) ≡ value / 2 ^ (8 + 8 * j) = shr-shr value 8 (8 * j) in
    let more : 8 + 8 * j ≡ 8 * suc j = omega arith in
    ap (stored_bytes b' (at + 1) n (value / 256)) there ∙ (stored_bytes-inside n b' (at + 1) (value / 256) j (omega arith) ∙ ap (λ x. Some (x % 256)) (shift ∙ ap (λ k. value / 2 ^ k) more))

-- a number depends on its bytes alone
pub number_from_bytes-same : (n : ℕ) (b b' : ℕ → Option ℕ) (at : ℕ) → ((a : ℕ) → at ≤ a → a < at + n → b a ≡ b' a) → number_from_bytes b at n ≡ number_from_bytes b' at n
number_from_bytes-same zero b b' at h = refl
number_from_bytes-same (suc n) b b' at h =
    let here : b at ≡ b' at = h at (omega arith) (omega arith) in
    let rest : number_from_bytes b (at + 1) n ≡ number_from_bytes b' (at + 1) n = number_from_bytes-same n b b' (at + 1) (λ a low high. h a (omega arith) (omega arith)) in
    rw (here, rest) refl

-- a store beside a number leaves it
pub number_from_bytes-stored_other : (n m : ℕ) (b : ℕ → Option ℕ) (at there value : ℕ) → (there + m ≤ at) ⊎ (at + n ≤ there) → number_from_bytes (stored_bytes b at n value) there m ≡ number_from_bytes b there m
number_from_bytes-stored_other n m b at there value h =
    number_from_bytes-same m (stored_bytes b at n value) b there (λ a low high. stored_bytes-outside n b at value a (⊎_elim (λ l. inl (omega arith)) (λ l. inr (omega arith)) h))

mod-split : (v w : ℕ) → 0 < w → v % (256 * w) ≡ v % 256 + 256 * (v / 256 % w)
mod-split v w pos =
    let small : v / 256 % w < w = mod-lt (v / 256) pos in
    let fits : v % 256 + 256 * (v / 256 % w) < 256 * w = omega arith in
    let e : v ≡ v / 256 / w * (256 * w) + (v % 256 + 256 * (v / 256 % w)) = omega (arith, div-add-mod v 256, div-add-mod (v / 256) w) in
    ap (λ x. x % (256 * w)) e ∙ mod-mul-add (v / 256 / w) (256 * w) (v % 256 + 256 * (v / 256 % w)) fits

-- what was stored is loaded
pub number_from_bytes-stored_same : (n : ℕ) (b : ℕ → Option ℕ) (at value : ℕ) → number_from_bytes (stored_bytes b at n value) at n ≡ Some (value % 256 ^ n)
number_from_bytes-stored_same zero b at value = let e : 0 ≡ value % 1 = omega arith in ap Some e
number_from_bytes-stored_same (suc n) b at value =
    let b' = put_byte b at (Some (value % 256)) in
    let low : stored_bytes b' (at + 1) n (value / 256) at ≡ Some (value % 256) = stored_bytes-outside n b' (at + 1) (value / 256) at (inl (omega arith)) ∙ put_byte-same b at (Some (value % 256)) in
    let high : number_from_bytes (stored_bytes b' (at + 1) n (value / 256)) (at + 1) n ≡ Some (value / 256 % 256 ^ n) = number_from_bytes-stored_same n b' (at + 1) (value / 256) in
    let pos : 0 < 256 ^ n = one-le-pow n 256 (omega arith) in
    rw (low, high, pow-succ', mod-split value (256 ^ n) pos) refl
