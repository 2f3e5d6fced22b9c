use Rattle.std.specs.Prelude.{ℕ, suc, zero, ◌+◌, ◌-◌, ◌*◌, ◌/◌, ◌%◌, nat_le, nat_lt, nat_eq, ◌&&◌, if◌then◌else◌, Option, Some, None}

-- a number with its lowest byte, where both are set
abbrev pub with_low_byte : Option ℕ → Option ℕ → Option ℕ
with_low_byte None high = None
with_low_byte (Some low) None = None
with_low_byte (Some low) (Some high) = Some (low + 256 * high)

-- the number whose n little-endian bytes stand from an address on, or None where one of them is unset
abbrev pub number_from_bytes : (ℕ → Option ℕ) → ℕ → ℕ → Option ℕ
number_from_bytes byte at zero = Some 0
number_from_bytes byte at (suc n) = with_low_byte (byte at) (number_from_bytes byte (at + 1) n)

-- the bytes after one of them was changed
abbrev pub put_byte : (ℕ → Option ℕ) → ℕ → Option ℕ → ℕ → Option ℕ
put_byte byte at value a = if nat_eq a at then value else byte a

-- the bytes after the low n bytes of a value were stored from an address on
abbrev pub stored_bytes : (ℕ → Option ℕ) → ℕ → ℕ → ℕ → ℕ → Option ℕ
stored_bytes byte at zero value = byte
stored_bytes byte at (suc n) value = stored_bytes (put_byte byte at (Some (value % 256))) (at + 1) n (value / 256)

-- the bytes after n of them were unset
abbrev pub cleared_bytes : (ℕ → Option ℕ) → ℕ → ℕ → ℕ → Option ℕ
cleared_bytes byte at n a = if nat_le at a && nat_lt a (at + n) then None else byte a

-- the bytes after n of them, set or unset, were copied from one address to another
abbrev pub with_bytes_copied : (ℕ → Option ℕ) → ℕ → ℕ → ℕ → ℕ → Option ℕ
with_bytes_copied byte from to n a = if nat_le to a && nat_lt a (to + n) then byte (from + (a - to)) else byte a
