-- The limit on a region.
use Rattle.std.specs.Prelude.{ℕ}

-- the bytes of a region
abbrev pub most_region_bytes : ℕ
most_region_bytes = 1048576
