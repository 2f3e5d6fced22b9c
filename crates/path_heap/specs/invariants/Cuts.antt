-- To which heap object a number belongs, by the rows.
use Rattle.std.specs.Prelude.{◌≡◌, ℕ, suc, ◌-◌, ◌<◌, ◌≤◌, Some, List, length, slice_get}
use Rattle.path_heap.specs.declared.state.ObjectRow.{ObjectRow}

-- the row before place i begins at n or before it
abbrev pub BeginsBefore : List ObjectRow → ℕ → ℕ → Type 0
BeginsBefore rows n i = (j : ℕ) (row : ObjectRow) → suc j ≡ i → slice_get rows j ≡ Some row → row.start ≤ n

-- the row at place i begins behind n
abbrev pub BeginsBehind : List ObjectRow → ℕ → ℕ → Type 0
BeginsBehind rows n i = (row : ObjectRow) → slice_get rows i ≡ Some row → n < row.start

-- the rows before place i are those that begin at n or before it, where each begins behind those before it
pub record IsCut (rows : List ObjectRow) (n i : ℕ) : Type 0 where
  pub within : i ≤ length rows
  pub before : BeginsBefore rows n i
  pub behind : BeginsBehind rows n i

-- the cut is between two places
pub record IsBetween (rows : List ObjectRow) (n low high : ℕ) : Type 0 where
  pub ordered : low ≤ high
  pub within : high ≤ length rows
  pub before : BeginsBefore rows n low
  pub behind : BeginsBehind rows n high

-- k is the last of those rows
pub record IsObjectAt (rows : List ObjectRow) (n k : ℕ) : Type 0 where
  pub cut : ℕ
  pub is_cut : IsCut rows n cut
  pub last : k ≡ cut - 1
