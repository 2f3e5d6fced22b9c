-- Lists that grow by what one item more gives.
use Rattle.std.proofs.Common.{◌≡◌, ℕ, zero, suc, ◌+◌, ◌<◌, List, [], ◌∷◌, ◌++◌, length, take, get_or, map, ap, sym, ◌∙◌, arith, append_assoc}
use Rattle.std.specs.List.{flat_map}
use Rattle.std.proofs.lemmas.List.{flat_map_more, take_more, map-append}
use Rattle.path_plan.specs.Plans.{count_from, upto}

count_more : (a n : ℕ) → count_from a (n + 1) ≡ count_from a n ++ (a + n) ∷ []
count_more a zero = ap (λ k. k ∷ []) (let e : a ≡ a + 0 = omega arith in e)
count_more a (suc n) =
    let e : suc a + n ≡ a + suc n = omega arith in
    let f : suc n + 1 ≡ suc (n + 1) = omega arith in
    ap (count_from a) f ∙ (ap (λ (t : List ℕ). a ∷ t) (count_more (suc a) n) ∙ ap (λ k. a ∷ (count_from (suc a) n ++ k ∷ [])) e)

-- one number more
numbers_more : (n : ℕ) → upto (n + 1) ≡ upto n ++ n ∷ []
numbers_more n = let e : 0 + n ≡ n = omega arith in count_more 0 n ∙ ap (λ k. upto n ++ k ∷ []) e

pub numbers_flat : {A : Type 0} (f : ℕ → List A) (n : ℕ) (old mid new : List A) → mid ≡ old ++ flat_map f (upto n) → new ≡ mid ++ f n → new ≡ old ++ flat_map f (upto (n + 1))
numbers_flat {A} f n old mid new e last = last ∙ (ap (λ (t : List A). t ++ f n) e ∙ (flat_map_more f old (upto n) n ∙ ap (λ (t : List ℕ). old ++ flat_map f t) (sym (numbers_more n))))

pub numbers_map : {A : Type 0} (f : ℕ → A) (n : ℕ) (old mid new : List A) → mid ≡ old ++ map f (upto n) → new ≡ mid ++ f n ∷ [] → new ≡ old ++ map f (upto (n + 1))
numbers_map {A} f n old mid new e last =
    let g : map f (upto n ++ n ∷ []) ≡ map f (upto n) ++ f n ∷ [] = map-append f (upto n) (n ∷ []) in
    last ∙ (ap (λ (t : List A). t ++ f n ∷ []) e ∙ (append_assoc old (map f (upto n)) (f n ∷ []) ∙ ap (λ (t : List A). old ++ t) (sym (ap (map f) (numbers_more n) ∙ g))))

-- one item of a list more
pub items_flat : {X A : Type 0} (f : X → List A) (list : List X) (j : ℕ) (x : X) (old mid new : List A) → j < length list → x ≡ get_or list j x → mid ≡ old ++ flat_map f (take j list) → new ≡ mid ++ f x → new ≡ old ++ flat_map f (take (j + 1) list)
items_flat {X} {A} f list j x old mid new less at e last =
    last ∙ (ap (λ (t : List A). t ++ f x) e ∙ (flat_map_more f old (take j list) x ∙ (ap (λ (y : X). old ++ flat_map f (take j list ++ y ∷ [])) at ∙ ap (λ (t : List X). old ++ flat_map f t) (sym (take_more list j x less)))))
