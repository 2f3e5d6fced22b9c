-- The lines of one number more.
use Rattle.std.proofs.Common.{◌≡◌, ◌∙◌, ℕ, zero, suc, ◌+◌, List, ◌++◌, append_assoc, append-nil, add-one, ap, sym, arith}
use Rattle.std.specs.List.{flat_map, range_with_len}
use Rattle.cxx_gen.specs.Generated.{lines_below}

-- n + 1 numbers from a on end with a + n
one_more : (line : ℕ → List ℕ) (a n m : ℕ) → a + n ≡ m → flat_map line (range_with_len a (suc n)) ≡ flat_map line (range_with_len a n) ++ line m
one_more line a zero m e = let same : a ≡ m = omega arith in append-nil (line a) ∙ ap line same
one_more line a (suc n) m e =
    ap (λ (x : List ℕ). line a ++ x) (one_more line (a + 1) n m (omega arith)) ∙ sym (append_assoc (line a) (flat_map line (range_with_len (a + 1) n)) (line m))

lines_more : (line : ℕ → List ℕ) (n : ℕ) → lines_below line (n + 1) ≡ lines_below line n ++ line n
lines_more line n = ap (λ k. flat_map line (range_with_len 0 k)) (add-one n) ∙ one_more line 0 n n (omega arith)

-- the text with the line of a number behind those of the numbers below it
pub line_put : (line : ℕ → List ℕ) (n : ℕ) (old text new : List ℕ) → text ≡ old ++ lines_below line n → new ≡ text ++ line n → new ≡ old ++ lines_below line (n + 1)
line_put line n old text new before put =
    put ∙ ap (λ (x : List ℕ). x ++ line n) before ∙ append_assoc old (lines_below line n) (line n) ∙ ap (λ (x : List ℕ). old ++ x) (sym (lines_more line n))
