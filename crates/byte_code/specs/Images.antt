-- The words of an image: eight bytes each, the lowest first (Itanium C++ ABI 1.5, 2.5.2).
use Rattle.std.specs.Prelude.{ℕ, ◌+◌, ◌-◌, nat_le, if◌then◌else◌, Option, Some, None, List, length, take, drop}
use Rattle.std.specs.Int.{w64, from_le_bytes}
use Rattle.byte_code.specs.declared.code.ImageBytes.{ImageBytes}

-- the number whose eight bytes stand from the i-th byte on, none where there are fewer
unfoldable pub image_number_at : List ℕ → ℕ → Option ℕ
image_number_at bytes i = if nat_le (i + 8) (length bytes) then Some (from_le_bytes w64 (take 8 (drop i bytes))) else None

-- the word that stands at an address, none outside of the image
abbrev pub word_at : ImageBytes → ℕ → Option ℕ
word_at image at = if nat_le image.base at then image_number_at image.bytes (at - image.base) else None
