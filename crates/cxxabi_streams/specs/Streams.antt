-- What a read takes from a source and a write gives to a sink, where they tell their bytes.
use Rattle.std.specs.Prelude.{◌≡◌, ℕ, ◌<◌, ◌≤◌, ◌^◌, ◌-◌, ◌⊎◌, ◌↔◌, ◌++◌, Option, Some, None, List, [], take, drop}

-- a count rose, or stands at the last number of its type
abbrev pub Rose : ℕ → ℕ → Type 0
Rose before after = (before < after) ⊎ (2 ^ 64 - 1 ≤ after)

-- n bytes at the front of a buffer are the next n of these bytes and leave the rest; none are read only at the end
pub record ReadsNext (bytes : List ℕ) (after : Option (List ℕ)) (n : ℕ) (buffer : List ℕ) : Type 0 where
  pub front : take n buffer ≡ take n bytes
  pub rest : after ≡ Some (drop n bytes)
  pub end : (n ≡ 0) ↔ (bytes ≡ [])

-- what a read of n bytes into a buffer did, by the bytes left before and after
abbrev pub Reads : Option (List ℕ) → Option (List ℕ) → ℕ → List ℕ → Type 0
Reads None after n buffer = Unit {0}
Reads (Some bytes) after n buffer = ReadsNext bytes after n buffer

-- what a write of the first n bytes of a piece did, by the bytes taken before and after
abbrev pub Writes : Option (List ℕ) → Option (List ℕ) → ℕ → List ℕ → Type 0
Writes None after n piece = Unit {0}
Writes (Some bytes) after n piece = after ≡ Some (bytes ++ take n piece)

-- after is these bytes and then a front of the text
pub record AddsFrontOf (bytes text : List ℕ) (after : Option (List ℕ)) : Type 0 where
  pub count : ℕ
  pub taken : after ≡ Some (bytes ++ take count text)
