-- Which words stand in bytes: each word ends with a byte 0, and what stands behind the last such byte is none.
use Rattle.std.specs.Prelude.{ℕ, zero, suc, List, [], ◌∷◌, ◌++◌}

-- the words of bytes, behind a word that has begun
abbrev pub words_behind : List ℕ → List ℕ → List (List ℕ)
words_behind begun [] = []
words_behind begun (zero ∷ bytes) = begun ∷ words_behind [] bytes
words_behind begun (suc n ∷ bytes) = words_behind (begun ++ suc n ∷ []) bytes

abbrev pub words_in : List ℕ → List (List ℕ)
words_in bytes = words_behind [] bytes
