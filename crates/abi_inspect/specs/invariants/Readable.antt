-- Leaves whose values can be read.
use Rattle.std.specs.Prelude.{ℕ, ◌≤◌, Option, Some, None}
use Rattle.cxx_hierarchy.specs.declared.records.Scalar.{Scalar}
use Rattle.cxx_hierarchy.specs.Scalars.{most_bits}
use Rattle.abi_inspect.specs.declared.seen.SeenValue.{SeenValue}
use Rattle.abi_inspect.specs.declared.seen.SeenValue.TheVariants.{Unset, Number, Null, Place}
use Rattle.abi_inspect.specs.Values.{IsHeapPlace}

-- a bit-field has at most 64 bits
abbrev pub IsNarrow : Option ℕ → Type 0
IsNarrow None = Unit {0}
IsNarrow (Some n) = n ≤ 64

-- how many bits of a number stand in a leaf
abbrev pub number_bits : Option ℕ → Scalar → ℕ
number_bits None t = most_bits t
number_bits (Some n) t = n

-- a value that a pointer can have
abbrev pub IsPointerValue : SeenValue → Type 0
IsPointerValue Unset = Unit {0}
IsPointerValue (Number z) = ⊥
IsPointerValue Null = Unit {0}
IsPointerValue (Place number place) = IsHeapPlace number place
