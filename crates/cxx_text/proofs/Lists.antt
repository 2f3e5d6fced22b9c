-- Fronts of lists that pass a test.
use Rattle.std.proofs.Common.{◌≡◌, ℕ, suc, zero, ◌+◌, ◌≤◌, Bool, true, false, ◌&&◌, cond, List, [], ◌∷◌, ◌++◌, take, drop, length, refl, arith, sym, ◌∙◌}
use Rattle.std.specs.List.{list_all, prefix_len}
use Rattle.cxx_text.specs.Bytes.{begins}

pub and_left : (a b : Bool) → a && b ≡ true → a ≡ true
and_left true b h = refl
and_left false b h = h

pub and_right : (a b : Bool) → a && b ≡ true → b ≡ true
and_right true b h = h
and_right false b h = absurd (cc)

pub both : (a b : Bool) → a ≡ true → b ≡ true → a && b ≡ true
both a b h k = rw (h, k) refl

pub apart : (a : Bool) → a ≡ true → a ≡ false → ⊥
apart a h k = let e : true ≡ false = sym h ∙ k in cc

-- as many pass as a front that passes has
pub all_within : (f : ℕ → Bool) (p r : List ℕ) → list_all f p ≡ true → length p ≤ prefix_len f (p ++ r)
all_within f [] r h = omega arith
all_within f (x ∷ p) r h =
    let ih = all_within f p r (and_right (f x) (list_all f p) h) in
    rw (and_left (f x) (list_all f p) h) (omega (arith, ih))

-- each front that is short enough passes
pub prefix_all : (f : ℕ → Bool) (xs : List ℕ) (n : ℕ) → n ≤ prefix_len f xs → list_all f (take n xs) ≡ true
prefix_all f xs zero h = refl
prefix_all f [] (suc n) h = refl
prefix_all f (x ∷ xs) (suc n) h =
    elim (f x) as (λ b. suc n ≤ cond b (1 + prefix_len f xs) 0 → (b && list_all f (take n xs)) ≡ true) [
      | true ↦ λ k. prefix_all f xs n (omega arith)
      | false ↦ λ k. absurd (omega arith)
    ] h

-- what follows the front that passes does not begin with one more
pub rest_stops : (f : ℕ → Bool) (xs : List ℕ) → begins f (drop (prefix_len f xs) xs) ≡ false
rest_stops f [] = refl
rest_stops f (x ∷ xs) =
    elim (f x) as (λ b. f x ≡ b → begins f (drop (cond b (1 + prefix_len f xs) 0) (x ∷ xs)) ≡ false) [
      | true ↦ λ e. (let s : 1 + prefix_len f xs ≡ suc (prefix_len f xs) = omega arith in rw s (rest_stops f xs))
      | false ↦ λ e. e
    ] refl

none_pass : (f : ℕ → Bool) (r : List ℕ) → begins f r ≡ false → prefix_len f r ≡ 0
none_pass f [] h = refl
none_pass f (y ∷ r) h = rw h refl

-- a front that passes, before a rest that does not begin with one that passes, is all of them
pub all_exact : (f : ℕ → Bool) (p r : List ℕ) → list_all f p ≡ true → begins f r ≡ false → prefix_len f (p ++ r) ≡ length p
all_exact f [] r h k = none_pass f r k
all_exact f (x ∷ p) r h k =
    let ih = all_exact f p r (and_right (f x) (list_all f p) h) k in
    rw (and_left (f x) (list_all f p) h) (omega (arith, ih))

-- a text begins as its front does
pub begins_front : (f : ℕ → Bool) (text p r : List ℕ) → text ≡ p ++ r → begins f p ≡ true → begins f text ≡ true
begins_front f text [] r e h = absurd (cc)
begins_front f text (c ∷ cs) r e h = rw e h

-- a weaker test
pub all_weaker : (f g : ℕ → Bool) → ((b : ℕ) → f b ≡ true → g b ≡ true) → (p : List ℕ) → list_all f p ≡ true → list_all g p ≡ true
all_weaker f g w [] h = refl
all_weaker f g w (x ∷ p) h =
    both (g x) (list_all g p) (w x (and_left (f x) (list_all f p) h)) (all_weaker f g w p (and_right (f x) (list_all f p) h))
