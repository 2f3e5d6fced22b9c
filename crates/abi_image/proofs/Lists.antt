use Rattle.std.proofs.Common.{◌≡◌, ℕ, zero, suc, ◌+◌, ◌*◌, ◌<◌, ◌⊎◌, ⊎_elim, inl, inr, Some, List, [], ◌∷◌, ◌++◌, map, length, refl, ap, sym, ◌∙◌, subst, arith, append_assoc, append-nil, length-append}
use Rattle.std.specs.List.{slice_get, flat_map}
use Rattle.abi_image.specs.invariants.Drafts.{AllAt, AllBySize, address_of, sum_of_sizes, one_word, two_words}

-- an item of two lists one after the other is one of the first, or of the second
pub get_cases : {A : Type 0} (xs ys : List A) (i : ℕ) (x : A) → slice_get (xs ++ ys) i ≡ Some x → (slice_get xs i ≡ Some x) ⊎ ((j : ℕ) × (i ≡ length xs + j) × (slice_get ys j ≡ Some x))
get_cases [] ys i x e = inr (i, omega arith, e)
get_cases (z ∷ xs) ys zero x e = inl e
get_cases (z ∷ xs) ys (suc i) x e = ⊎_elim (λ h. inl h) (λ r. let (j, p, q) = r in inr (j, omega arith, q)) (get_cases xs ys i x e)

-- items that take so many words each, and one more
pub sized_append : {A : Type 0} (size : A → ℕ) (P : ℕ → A → ℕ → Type 0) (xs : List A) (x : A) (at : ℕ) → AllBySize size P xs at → P (length xs) x (at + 8 * sum_of_sizes (map size xs)) → AllBySize size P (xs ++ x ∷ []) at
sized_append size P [] x at h p zero y e = let same : x ≡ y = cc in let zero_more : at + 8 * 0 ≡ at = omega arith in subst (λ z. P 0 z at) same (subst (λ n. P 0 x n) zero_more p)
sized_append size P [] x at h p (suc i) y e = absurd (cc)
sized_append size P (z ∷ xs) x at h p zero y e = h zero y e
sized_append size P (z ∷ xs) x at h p (suc i) y e =
    let there : at + 8 * (size z + sum_of_sizes (map size xs)) ≡ at + 8 * size z + 8 * sum_of_sizes (map size xs) = omega arith in
    sized_append size (λ j. P (suc j)) xs x (at + 8 * size z) (λ j w f. h (suc j) w f) (subst (λ n. P (suc (length xs)) x n) there p) i y e

pub total_append : {A : Type 0} (size : A → ℕ) (xs : List A) (x : A) → sum_of_sizes (map size (xs ++ x ∷ [])) ≡ sum_of_sizes (map size xs) + size x
total_append size [] x = omega arith
total_append size (z ∷ xs) x = let ih = total_append size xs x in omega arith

-- items of one word each stand one after the other
pub one_word_each : {A : Type 0} (xs : List A) (at i : ℕ) → i < length xs → address_of (map one_word xs) at i ≡ at + 8 * i
one_word_each [] at i less = absurd (omega arith)
one_word_each (x ∷ xs) at zero less = omega arith
one_word_each (x ∷ xs) at (suc i) less = let ih = one_word_each xs (at + 8 * 1) i (omega arith) in ih ∙ (omega arith)

pub two_words_each : {A : Type 0} (xs : List A) (at i : ℕ) → i < length xs → address_of (map two_words xs) at i ≡ at + 16 * i
two_words_each [] at i less = absurd (omega arith)
two_words_each (x ∷ xs) at zero less = omega arith
two_words_each (x ∷ xs) at (suc i) less = let ih = two_words_each xs (at + 8 * 2) i (omega arith) in ih ∙ (omega arith)

pub total_one : {A : Type 0} (xs : List A) → sum_of_sizes (map one_word xs) ≡ length xs
total_one [] = refl
total_one (x ∷ xs) = let ih = total_one xs in omega arith

pub total_two : {A : Type 0} (xs : List A) → sum_of_sizes (map two_words xs) ≡ 2 * length xs
total_two [] = omega arith
total_two (x ∷ xs) = let ih = total_two xs in omega arith

-- the words of pieces one after the other are those of all
pub flat_all : {A : Type 0} {B : Type 0} (f : A → List B) (Q : ℕ → B → Type 0) (xs : List A) (at : ℕ) → AllBySize (λ x. length (f x)) (λ i x there. AllAt Q (f x) there) xs at → AllAt Q (flat_map f xs) at
flat_all f Q [] at h i y e = absurd (cc)
flat_all f Q (x ∷ xs) at h i y e = ⊎_elim
    (λ first. h zero x refl i y first)
    (λ r. let (j, p, q) = r in
    let there : at + 8 * length (f x) + 8 * j ≡ at + 8 * i = omega arith in
    subst (λ n. Q n y) there (flat_all f Q xs (at + 8 * length (f x)) (λ k z g. h (suc k) z g) j y q))
    (get_cases (f x) (flat_map f xs) i y e)

pub flat_total : {A : Type 0} {B : Type 0} (f : A → List B) (xs : List A) → sum_of_sizes (map (λ x. length (f x)) xs) ≡ length (flat_map f xs)
flat_total f [] = refl
flat_total f (x ∷ xs) = let ih = flat_total f xs in let e = length-append (f x) (flat_map f xs) in omega arith

pub flat_append : {A : Type 0} {B : Type 0} (f : A → List B) (xs : List A) (x : A) → flat_map f (xs ++ x ∷ []) ≡ flat_map f xs ++ f x
flat_append f [] x = append-nil (f x)
flat_append f (z ∷ xs) x = ap (λ ys. f z ++ ys) (flat_append f xs x) ∙ sym (append_assoc (f z) (flat_map f xs) (f x))
