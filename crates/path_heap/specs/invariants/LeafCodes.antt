-- Which value a code of a leaf stands for; None where another layer has the value.
use Rattle.std.specs.Prelude.{ℕ, pos, ◌-ℤ◌, ◌-◌, ◌/◌, ◌%◌, Option, Some, None, nat_eq, if◌then◌else◌}
use Rattle.path_heap.specs.declared.state.Value.{Value}
use Rattle.path_heap.specs.declared.state.Value.TheVariants.{Unset, Number, Null, Pointer}

-- a code of two bits
abbrev pub pair_by_code : ℕ → Option Value
pair_by_code code =
    if nat_eq code 0 then Some Unset else (if nat_eq code 1 then Some (Number (pos 0)) else (if nat_eq code 2 then Some (Number (pos 1)) else None))

-- a number between -half and half
abbrev pub number_by_code : ℕ → ℕ → Option Value
number_by_code half code = if nat_eq code 0 then None else Some (Number (pos code -ℤ pos half))

-- the number of a part
abbrev pub pointer_by_code : ℕ → Option Value
pointer_by_code code = if nat_eq code 0 then None else Some (Pointer (code - 1))

-- a code of 64 bits: an odd one is that of a number or of null, an even one that of a part
abbrev pub long_by_code : ℕ → Option Value
long_by_code code =
    if nat_eq code 1 then Some Null else (if nat_eq (code % 2) 1 then number_by_code 2305843009213693952 (code / 2) else pointer_by_code (code / 2))

-- the value of the first layer that has one
abbrev pub held : Option Value → Value → Value
held None rest = rest
held (Some value) rest = value
