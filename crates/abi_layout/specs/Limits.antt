-- The limit of this implementation on the sizes of classes, and the alignments that there are on LP64.
use Rattle.std.specs.Prelude.{ℕ}

-- the largest size of a class, in bytes
abbrev pub size_limit : ℕ
size_limit = 500000

-- an alignment in bytes
pub data IsAlignment : ℕ → Type 0 where
  byte : IsAlignment 1
  two_bytes : IsAlignment 2
  four_bytes : IsAlignment 4
  eight_bytes : IsAlignment 8
