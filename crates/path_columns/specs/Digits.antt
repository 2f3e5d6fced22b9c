-- Codes of some bits each, as the digits of a word.
use Rattle.std.specs.Prelude.{◌≡◌, ◌<◌, ◌*◌, ◌/◌, ◌%◌, ◌^◌, ℕ}

-- the digit of a word at a place, where each digit has so many bits
abbrev pub digit : ℕ → ℕ → ℕ → ℕ
digit bits word place = word / 2 ^ (bits * place) % 2 ^ bits

-- some digits make up a word of 64 bits
pub record IsCodeWidth (bits : ℕ) : Type 0 where
  pub some : 0 < bits
  pub whole : bits * (64 / bits) ≡ 64
  pub small : bits < 64
