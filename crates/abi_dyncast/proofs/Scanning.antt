-- The scan for the one item that passes a test.
use Rattle.std.proofs.Common.{◌≡◌, ℕ, Bool, Option, Some, None, List, [], ◌∷◌, drop}
use Rattle.std.specs.Prelude.{filter}
use Rattle.abi_dyncast.specs.declared.work.Entry.{Entry}
use Rattle.abi_dyncast.specs.invariants.Deciding.{only_of}

-- the one of a list, after one was found
abbrev pub only_from : Option Entry → List Entry → Option Entry
only_from None ys = only_of ys
only_from (Some x) [] = Some x
only_from (Some x) (y ∷ ys) = None

-- what the scan keeps at an index
abbrev pub Scans : (p : Entry → Bool) → List Entry → ℕ → Option Entry → Type 0
Scans p xs i only = only_of (filter p xs) ≡ only_from only (filter p (drop i xs))
