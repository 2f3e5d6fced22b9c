-- A reader of an image, and how many records of bases it has read.
use Rattle.std.specs.Prelude.{ℕ, ◌+◌, ◌^◌, nat_lt, if◌then◌else◌}
use Rattle.byte_code.specs.declared.code.ImageBytes.{ImageBytes}
use Rattle.byte_code.specs.declared.base_reader.BaseReader.{BaseReader}

abbrev pub image_of : BaseReader → ImageBytes
image_of reader = reader.image.now

abbrev pub visits_of : BaseReader → ℕ
visits_of reader = reader.visits

-- a count raised by one; it stays at the last value of u64
abbrev pub raised : ℕ → ℕ
raised n = if nat_lt (n + 1) (2 ^ 64) then n + 1 else n
