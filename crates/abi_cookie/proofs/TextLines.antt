-- Lines one after the other.
use Rattle.std.proofs.Common.{◌≡◌, ℕ, suc, ◌+◌, ◌-◌, ◌*◌, ◌/◌, ◌^◌, ◌<◌, ◌≤◌, Bool, true, false, List, [], ◌∷◌, ◌++◌, length, get_or, take, map, refl, ap, sym, subst, ◌∙◌, arith, append_assoc}
use Rattle.std.specs.Prelude.{Ok, Err, Result, OnOk, is_err, reverse, nat_eq, if◌then◌else◌, codes}
use Rattle.std.specs.List.{flat_map, range_with_len}
use Rattle.std.specs.Fmt.{decimal}
use Rattle.std.proofs.Math.Nat.{mul-div_cancel}
use Rattle.std.proofs.lemmas.Grind.{flat_map-append}
use Rattle.std.proofs.lemmas.Bool.Decides.{nat_tests}
use Rattle.std.proofs.lemmas.List.{append-nil, length-map, length-reverse, get_or-map, get_or-reverse}
use Rattle.std.proofs.lemmas.Option.{get_or_from_slice_get}
use Rattle.std.proofs.lemmas.List.Concat.{flat_map-cons}
use Rattle.foundation.proofs.Places.{take_next, any_default}
use Rattle.byte_memory.specs.declared.memory.MemoryFault.{MemoryFault}
use Rattle.abi_cookie.specs.Arrays.{element_at, elements, ended_elements}
use Rattle.abi_cookie.specs.ArrayTexts.{sizes_text, count_text, element_text, end_text, array_text}
use Rattle.abi_cookie.proofs.Elements.{range-more, reverse-map, elements-length, elements-at, element-inside}

flat_map-last : (f : ℕ → List ℕ) (xs : List ℕ) (x : ℕ) → flat_map f (xs ++ x ∷ []) ≡ flat_map f xs ++ f x
flat_map-last f xs x = flat_map-append f xs (x ∷ []) ∙ ap (λ (ys : List ℕ). flat_map f xs ++ ys) (flat_map-cons f x [] ∙ append-nil (f x))

-- the lines of the first numbers, and one line more
pub one-line : (f : ℕ → List ℕ) (old text new : List ℕ) (i : ℕ) → text ≡ old ++ flat_map f (range_with_len 0 i) → new ≡ text ++ f i → new ≡ old ++ flat_map f (range_with_len 0 (i + 1))
one-line f old text new i before more =
    let next : i + 1 ≡ suc i = omega arith in
    let at : 0 + i ≡ i = omega arith in
    more
    ∙ (ap (λ (xs : List ℕ). xs ++ f i) before
    ∙ (append_assoc old (flat_map f (range_with_len 0 i)) (f i)
    ∙ ap (λ (xs : List ℕ). old ++ xs) (sym (flat_map-last f (range_with_len 0 i) i) ∙ ap (flat_map f) (ap (λ (k : ℕ). range_with_len 0 i ++ k ∷ []) (sym at) ∙ (sym (range-more 0 i) ∙ ap (range_with_len 0) (sym next))))))

-- the number of an element by its address
element-number : (first size i : ℕ) → 1 ≤ size → (element_at first size i - first) / size ≡ i
element-number first size i some =
    let back : element_at first size i - first ≡ i * size = omega arith in
    ap (λ (k : ℕ). k / size) back ∙ mul-div_cancel i some

element-place : (first size cookie i : ℕ) → cookie + (element_at first size i - first) ≡ element_at cookie size i
element-place first size cookie i = omega arith

-- the lines of the first elements that were ended, and one line more
pub one-end : (first size cookie : ℕ) (ended numbers : List ℕ) (k at : ℕ) (old text new : List ℕ) → 1 ≤ size → k < length ended → at ≡ get_or ended k at → ended ≡ map (element_at first size) numbers →
    text ≡ old ++ flat_map (end_text size cookie) (take k numbers) → new ≡ text ++ (codes "end " ++ decimal ((at - first) / size) ++ codes " at " ++ decimal (cookie + (at - first)) ++ codes "\n") →
    new ≡ old ++ flat_map (end_text size cookie) (take (k + 1) numbers)
one-end first size cookie ended numbers k at old text new some within here are before more =
    let sizes : length ended ≡ length numbers = ap length are ∙ length-map numbers (element_at first size) in
    let inside : k < length numbers = omega arith in
    let i : ℕ = get_or numbers k 0 in
    let is : at ≡ element_at first size i = here ∙ (ap (λ (xs : List ℕ). get_or xs k at) are ∙ get_or-map (element_at first size) numbers k 0 at inside) in
    let number : (at - first) / size ≡ i = ap (λ (a : ℕ). (a - first) / size) is ∙ element-number first size i some in
    let place : cookie + (at - first) ≡ element_at cookie size i = ap (λ (a : ℕ). cookie + (a - first)) is ∙ element-place first size cookie i in
    let next : take (k + 1) numbers ≡ take k numbers ++ i ∷ [] = take_next numbers k i inside (any_read numbers k inside) in
    more
    ∙ (ap (λ (xs : List ℕ). xs ++ (codes "end " ++ decimal ((at - first) / size) ++ codes " at " ++ decimal (cookie + (at - first)) ++ codes "\n")) before
    ∙ (ap (λ (m : ℕ). (old ++ flat_map (end_text size cookie) (take k numbers)) ++ (codes "end " ++ decimal m ++ codes " at " ++ decimal (cookie + (at - first)) ++ codes "\n")) number
    ∙ (ap (λ (m : ℕ). (old ++ flat_map (end_text size cookie) (take k numbers)) ++ (codes "end " ++ decimal i ++ codes " at " ++ decimal m ++ codes "\n")) place
    ∙ (append_assoc old (flat_map (end_text size cookie) (take k numbers)) (end_text size cookie i)
    ∙ ap (λ (xs : List ℕ). old ++ xs) (sym (flat_map-last (end_text size cookie) (take k numbers) i) ∙ ap (flat_map (end_text size cookie)) (sym next))))))
  where
    any_read : (xs : List ℕ) (j : ℕ) → j < length xs → get_or xs j 0 ≡ get_or xs j (get_or xs j 0)
    any_read xs j lt = any_default xs j 0 (get_or xs j 0) lt

-- the text of the count, where there is a cookie
pub cookie-told : {U E : Type 0} (result : Result U E) (loaded : Result ℕ MemoryFault) (old new : List ℕ) (cookie : ℕ) → 0 < cookie → OnOk result ((n : ℕ) → loaded ≡ Ok n → new ≡ old ++ count_text n) →
    OnOk result ((n : ℕ) → (0 < cookie → loaded ≡ Ok n) → new ≡ old ++ (if nat_eq cookie 0 then [] else count_text n))
cookie-told (Ok x) loaded old new cookie some told =
    let test : nat_eq cookie 0 ≡ false = grind (arith, nat_tests) in
    λ n stored. told n (stored some) ∙ ap (λ (b : Bool). old ++ (if b then [] else count_text n)) (sym test)
cookie-told (Err e) loaded old new cookie some told = tt

-- the numbers of the elements that are ended
abbrev pub ended_numbers : ℕ → ℕ → List ℕ
ended_numbers cookie n = if nat_eq cookie 0 then [] else reverse (range_with_len 0 n)

pub ended-map : (first size cookie n : ℕ) → ended_elements first size cookie n ≡ map (element_at first size) (ended_numbers cookie n)
ended-map first size cookie n = by_test (nat_eq cookie 0)
  where
    by_test : (b : Bool) → (if b then [] else reverse (elements first size n)) ≡ map (element_at first size) (if b then [] else reverse (range_with_len 0 n))
    by_test true = refl
    by_test false = reverse-map (element_at first size) (range_with_len 0 n)

pub ended-text : (f : ℕ → List ℕ) (cookie n : ℕ) → flat_map f (ended_numbers cookie n) ≡ (if nat_eq cookie 0 then [] else flat_map f (reverse (range_with_len 0 n)))
ended-text f cookie n = by_test (nat_eq cookie 0)
  where
    by_test : (b : Bool) → flat_map f (if b then [] else reverse (range_with_len 0 n)) ≡ (if b then [] else flat_map f (reverse (range_with_len 0 n)))
    by_test true = refl
    by_test false = refl

-- each address that is ended is that of an element
each-reversed : (first size n k d : ℕ) → k < length (reverse (elements first size n)) → (i : ℕ) × (i < n) × (get_or (reverse (elements first size n)) k d ≡ element_at first size i)
each-reversed first size n k d lt =
    let turned : length (reverse (elements first size n)) ≡ length (elements first size n) = length-reverse (elements first size n) in
    let size' : length (elements first size n) ≡ n = elements-length first size n in
    let i : ℕ = length (elements first size n) - 1 - k in
    let less : i < n = omega arith in
    (i, less, get_or-reverse (elements first size n) k d (omega arith) ∙ get_or_from_slice_get (elements first size n) i (element_at first size i) d (elements-at first size n i less))

pub each-ended : (first size cookie n : ℕ) (xs : List ℕ) → xs ≡ ended_elements first size cookie n → (k d : ℕ) → k < length xs → (first ≤ get_or xs k d) × (get_or xs k d ≤ first + n * size)
each-ended first size cookie n xs is k d lt = by_test (nat_eq cookie 0) is
  where
    inside : (i : ℕ) → i < n → (first ≤ element_at first size i) × (element_at first size i ≤ first + n * size)
    inside i less = let both = element-inside first size n i less in (omega arith, omega (arith, both.1))

    by_test : (b : Bool) → xs ≡ (if b then [] else reverse (elements first size n)) → (first ≤ get_or xs k d) × (get_or xs k d ≤ first + n * size)
    by_test true e = let none : length xs ≡ 0 = ap length e in absurd (omega arith)
    by_test false e =
        let longer : k < length (reverse (elements first size n)) = subst (λ (ys : List ℕ). k < length ys) e lt in
        let r = each-reversed first size n k d longer in
        let same : get_or xs k d ≡ element_at first size r.0 = ap (λ (ys : List ℕ). get_or ys k d) e ∙ r.2 in
        subst (λ (a : ℕ). (first ≤ a) × (a ≤ first + n * size)) (sym same) (inside r.0 r.1)

-- the whole text
pub whole-text : (size cookie n : ℕ) (none one two three four : List ℕ) → none ≡ [] → one ≡ none ++ sizes_text size cookie n → two ≡ one ++ (if nat_eq cookie 0 then [] else count_text n) →
    three ≡ two ++ flat_map (element_text size cookie) (range_with_len 0 n) → four ≡ three ++ (if nat_eq cookie 0 then [] else flat_map (end_text size cookie) (reverse (range_with_len 0 n))) → four ≡ array_text size cookie n
whole-text size cookie n none one two three four a b c d e =
    e ∙ ap (λ (xs : List ℕ). xs ++ (if nat_eq cookie 0 then [] else flat_map (end_text size cookie) (reverse (range_with_len 0 n))))
    (d ∙ ap (λ (xs : List ℕ). xs ++ flat_map (element_text size cookie) (range_with_len 0 n))
    (c ∙ ap (λ (xs : List ℕ). xs ++ (if nat_eq cookie 0 then [] else count_text n))
    (b ∙ ap (λ (xs : List ℕ). xs ++ sizes_text size cookie n) a)))

-- what a list has, where a call appended to an empty one
pub ended-list : {U E : Type 0} (P : ℕ → Type 0) (first size cookie : ℕ) (old new : List ℕ) (result : Result U E) (b : Bool) → b ≡ is_err result → b ≡ false → OnOk result ((n : ℕ) → P n → new ≡ old ++ ended_elements first size cookie n) →
    old ≡ [] → (n : ℕ) → P n → new ≡ ended_elements first size cookie n
ended-list P first size cookie old new (Ok x) b is off told none n holds = told n holds ∙ ap (λ (xs : List ℕ). xs ++ ended_elements first size cookie n) none
ended-list P first size cookie old new (Err e) b is off told none n holds = let clash : true ≡ false = sym is ∙ off in cc

pub below-limit : (a b : ℕ) → a ≤ b → b < 2 ^ 41 → a < 2 ^ 41
below-limit a b less limit = omega arith
