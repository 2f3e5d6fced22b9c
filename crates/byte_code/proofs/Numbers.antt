-- Words stand inside of their bytes and of their image.
use Rattle.std.proofs.Common.{◌≡◌, ℕ, ◌+◌, ◌-◌, ◌<◌, ◌≤◌, Some, None, List, length, take, drop, refl, arith}
use Rattle.std.specs.Prelude.{nat_le, if◌then◌else◌}
use Rattle.std.specs.Int.{w64, from_le_bytes}
use Rattle.std.proofs.lemmas.Bool.Decides.{nat_tests}
use Rattle.foundation.proofs.Truth.{split}
use Rattle.byte_code.specs.declared.code.ImageBytes.{ImageBytes}
use Rattle.byte_code.specs.Images.{image_number_at, word_at}

pub number_inside : (bytes : List ℕ) (i w : ℕ) → image_number_at bytes i ≡ Some w → i + 8 ≤ length bytes
unfolding image_number_at
number_inside bytes i w e = split (nat_le (i + 8) (length bytes)) (λ b. (if b then Some (from_le_bytes w64 (take 8 (drop i bytes))) else None) ≡ Some w → i + 8 ≤ length bytes)
    (λ t h. grind (arith, nat_tests)) (λ f h. absurd (cc)) e

-- a word stands inside of its image
pub word_inside : (image : ImageBytes) (at w : ℕ) → word_at image at ≡ Some w → at < image.base + length image.bytes
word_inside image at w e = split (nat_le image.base at) (λ b. nat_le image.base at ≡ b → (if b then image_number_at image.bytes (at - image.base) else None) ≡ Some w → at < image.base + length image.bytes)
    (λ t is h. let r = number_inside image.bytes (at - image.base) w h in grind (arith, nat_tests)) (λ f is h. absurd (cc)) refl e
