-- Bits that a memory reads in one word.
use Rattle.std.specs.Prelude.{ℕ, ◌+◌, ◌<◌, ◌≤◌, Option, Some, None}
use Rattle.cxx_hierarchy.specs.Classes.{Classes, width_of_member}
use Rattle.text_bytes.specs.declared.rows.LeafRow.{LeafRow}

-- the bits of a bit-field begin in the byte at its place, there is one, and they end in the 8 bytes from there
abbrev pub AreNear : ℕ → Option ℕ → Type 0
AreNear first None = Unit {0}
AreNear first (Some width) = (first < 8) × (0 < width) × (first + width ≤ 64)

abbrev pub IsRowNear : Classes → LeafRow → Type 0
IsRowNear h row = AreNear row.first (width_of_member h row.class row.number)
