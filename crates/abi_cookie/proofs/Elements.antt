-- Lists of elements, in their order and in the reverse one.
use Rattle.std.proofs.Common.{◌≡◌, ℕ, zero, suc, ◌+◌, ◌-◌, ◌*◌, ◌<◌, ◌≤◌, ⊎_elim, List, [], ◌∷◌, ◌++◌, Bool, false, length, get_or, map, refl, ap, sym, ◌∙◌, arith}
use Rattle.std.specs.Prelude.{Some, slice_get, reverse, nat_eq, if◌then◌else◌}
use Rattle.std.specs.List.{range_with_len}
use Rattle.std.proofs.lemmas.Bool.{cases_lt}
use Rattle.std.proofs.lemmas.Bool.Decides.{nat_tests}
use Rattle.std.proofs.lemmas.List.{map-append, reverse-append, length-reverse, get_or-reverse}
use Rattle.std.proofs.lemmas.List.FromFn.{length-range_with_len, length-map-range_with_len, get_or-map-range_with_len}
use Rattle.std.proofs.lemmas.Option.{slice_get-get_or, slice_get_within, get_or_from_slice_get}
use Rattle.byte_memory.specs.Regions.{IsAscendingBy}
use Rattle.abi_cookie.specs.Arrays.{element_at, elements, ended_elements}

-- one number more, at the end
pub range-more : (a n : ℕ) → range_with_len a (suc n) ≡ range_with_len a n ++ (a + n) ∷ []
range-more a zero = let e : a ≡ a + 0 = omega arith in ap (λ (x : ℕ). x ∷ []) e
range-more a (suc n) =
    let e : (a + 1) + n ≡ a + suc n = omega arith in
    ap (λ (xs : List ℕ). a ∷ xs) (range-more (a + 1) n ∙ ap (λ (x : ℕ). range_with_len (a + 1) n ++ x ∷ []) e)

pub elements-more : (first size n : ℕ) → elements first size (suc n) ≡ elements first size n ++ element_at first size n ∷ []
elements-more first size n =
    let e : 0 + n ≡ n = omega arith in
    ap (map (element_at first size)) (range-more 0 n)
    ∙ (map-append (element_at first size) (range_with_len 0 n) ((0 + n) ∷ [])
    ∙ ap (λ (k : ℕ). map (element_at first size) (range_with_len 0 n) ++ element_at first size k ∷ []) e)

-- the last element comes first in the reverse order
pub reverse-more : (first size n : ℕ) → reverse (elements first size (suc n)) ≡ element_at first size n ∷ reverse (elements first size n)
reverse-more first size n = ap reverse (elements-more first size n) ∙ reverse-append (elements first size n) (element_at first size n ∷ [])

-- a reverse list of what a function gives
pub reverse-map : {X Y : Type 0} (f : X → Y) (xs : List X) → reverse (map f xs) ≡ map f (reverse xs)
reverse-map f [] = refl
reverse-map {X} f (x ∷ xs) =
    reverse-append (f x ∷ []) (map f xs)
    ∙ (ap (λ (ys : List _). ys ++ f x ∷ []) (reverse-map f xs)
    ∙ (sym (map-append f (reverse xs) (x ∷ []))
    ∙ ap (map f) (sym (reverse-append (x ∷ []) xs))))

pub elements-length : (first size n : ℕ) → length (elements first size n) ≡ n
elements-length first size n = length-map-range_with_len (element_at first size) 0 n

pub elements-at : (first size n i : ℕ) → i < n → slice_get (elements first size n) i ≡ Some (element_at first size i)
elements-at first size n i lt =
    let within : i < length (elements first size n) = let size' = elements-length first size n in omega arith in
    slice_get-get_or (elements first size n) i 0 within
    ∙ ap Some (get_or-map-range_with_len (element_at first size) 0 n i i 0 lt (omega arith))

-- where the item of a place is
pub element-is : (first size n i x : ℕ) → slice_get (elements first size n) i ≡ Some x → (i < n) × (x ≡ element_at first size i)
element-is first size n i x here =
    let within : i < length (elements first size n) = slice_get_within (elements first size n) i x here in
    let size' = elements-length first size n in
    let lt : i < n = omega arith in
    let there = elements-at first size n i lt in
    (lt, let e : x ≡ element_at first size i = cc in e)

element-less : (first size i j : ℕ) → i < j → element_at first size i + size ≤ element_at first size j
element-less first size i j less =
    let d : ℕ = j - i - 1 in
    let e : j ≡ i + 1 + d = omega arith in
    rw e (omega arith)

pub elements-apart : (first size n : ℕ) → IsAscendingBy (λ (at : ℕ). at) (λ (at : ℕ). size) (elements first size n)
elements-apart first size n i j x y less here there =
    let a = element-is first size n i x here in
    let b = element-is first size n j y there in
    rw (a.1, b.1) (element-less first size i j less)

pub element-inside : (first size n i : ℕ) → i < n → (first ≤ element_at first size i) × (element_at first size i + size ≤ first + n * size)
element-inside first size n i lt = (omega arith, element-less first size i n lt)

pub element-once : (first size i j : ℕ) → 1 ≤ size → element_at first size i ≡ element_at first size j → i ≡ j
element-once first size i j some same =
    ⊎_elim (λ (before : i < j). let apart = element-less first size i j before in absurd (omega arith))
    (λ (least : j ≤ i). ⊎_elim (λ (after : j < i). let apart = element-less first size j i after in absurd (omega arith)) (λ (most : i ≤ j). omega arith) (cases_lt j i))
    (cases_lt i j)

-- those that are ended
pub ended-some : (first size cookie n : ℕ) → 0 < cookie → ended_elements first size cookie n ≡ reverse (elements first size n)
ended-some first size cookie n some =
    let test : nat_eq cookie 0 ≡ false = grind (arith, nat_tests) in
    ap (λ (b : Bool). if b then [] else reverse (elements first size n)) test

pub ended-length : (first size cookie n : ℕ) → 0 < cookie → length (ended_elements first size cookie n) ≡ n
ended-length first size cookie n some = ap length (ended-some first size cookie n some) ∙ (length-reverse (elements first size n) ∙ elements-length first size n)

reversed-at : (first size n i : ℕ) → i < n → slice_get (reverse (elements first size n)) (n - 1 - i) ≡ Some (element_at first size i)
reversed-at first size n i lt =
    let size' : length (elements first size n) ≡ n = elements-length first size n in
    let turned : length (reverse (elements first size n)) ≡ n = length-reverse (elements first size n) ∙ size' in
    let k : ℕ = n - 1 - i in
    let back : length (elements first size n) - 1 - k ≡ i = omega arith in
    slice_get-get_or (reverse (elements first size n)) k 0 (omega arith)
    ∙ ap Some (get_or-reverse (elements first size n) k 0 (omega arith)
    ∙ (ap (λ (m : ℕ). get_or (elements first size n) m 0) back ∙ get_or_from_slice_get (elements first size n) i (element_at first size i) 0 (elements-at first size n i lt)))

pub ended-at : (first size cookie n i : ℕ) → 0 < cookie → i < n → slice_get (ended_elements first size cookie n) (n - 1 - i) ≡ Some (element_at first size i)
ended-at first size cookie n i some lt = ap (λ (xs : List ℕ). slice_get xs (n - 1 - i)) (ended-some first size cookie n some) ∙ reversed-at first size n i lt
