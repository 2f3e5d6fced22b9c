-- Alignments that divide each other, and bounds.
use Rattle.std.proofs.Common.{◌≡◌, ℕ, ◌*◌, ◌<◌, ◌≤◌, ◌⊎◌, inl, inr, ⊎_elim, refl, arith}
use Rattle.std.specs.Prelude.{max}
use Rattle.std.proofs.lemmas.Bool.{cases_order}
use Rattle.std.proofs.Math.Nat.{max-eq_right}
use Rattle.abi_sound.specs.Sound.{Divides}
use Rattle.abi_layout.specs.invariants.Alignments.{IsAlignment, byte, two_bytes, four_bytes, eight_bytes}
use Rattle.abi_layout.proofs.lists.Divisions.{through_divides}

-- of two alignments the smaller divides the greater
pub align_divides : (x y : ℕ) → IsAlignment x → IsAlignment y → x ≤ y → Divides x y
align_divides _ y byte b le = record { times = y; is = omega arith }
align_divides _ _ two_bytes byte le = absurd (omega arith)
align_divides _ _ two_bytes two_bytes le = record { times = 1; is = refl }
align_divides _ _ two_bytes four_bytes le = record { times = 2; is = refl }
align_divides _ _ two_bytes eight_bytes le = record { times = 4; is = refl }
align_divides _ _ four_bytes byte le = absurd (omega arith)
align_divides _ _ four_bytes two_bytes le = absurd (omega arith)
align_divides _ _ four_bytes four_bytes le = record { times = 1; is = refl }
align_divides _ _ four_bytes eight_bytes le = record { times = 2; is = refl }
align_divides _ _ eight_bytes byte le = absurd (omega arith)
align_divides _ _ eight_bytes two_bytes le = absurd (omega arith)
align_divides _ _ eight_bytes four_bytes le = absurd (omega arith)
align_divides _ _ eight_bytes eight_bytes le = record { times = 1; is = refl }

pub times_divides : (a b e : ℕ) → Divides a b → Divides a (e * b)
times_divides a b e d = through_divides a b (e * b) d (record { times = e; is = refl })

pub most : (n : ℕ) → 1 ≤ n → max 1 n ≡ n
most n le = max-eq_right le

pub within_or_past : (i n : ℕ) → (i < n) ⊎ (n ≤ i)
within_or_past i n = ⊎_elim (λ e. inr (omega arith)) (λ o. ⊎_elim (λ l. inl l) (λ g. inr (omega arith)) o) (cases_order i n)
