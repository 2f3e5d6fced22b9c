-- Two lists that go along item by item.
use Rattle.std.proofs.Common.{◌≡◌, ◌∙◌, ℕ, zero, suc, ◌+◌, ◌<◌, List, [], ◌∷◌, ◌++◌, map, refl, ap, subst, sym, append_assoc, arith}
use Rattle.std.specs.List.{AllZip, flat_map, range_with_len}
use Rattle.foundation.proofs.Zips.{zip_append}
use Rattle.path_plan.specs.Plans.{count_from}

-- a relation that follows from another
pub zip_weaker : {A B : Type 0} (R Q : A → B → Type 0) (xs : List A) (ys : List B) → ((a : A) (b : B) → R a b → Q a b) → AllZip R xs ys → AllZip Q xs ys
zip_weaker R Q [] [] rule z = tt
zip_weaker R Q [] (y ∷ ys) rule z = absurd z
zip_weaker R Q (x ∷ xs) [] rule z = absurd z
zip_weaker R Q (x ∷ xs) (y ∷ ys) rule z = (rule x y z.0, zip_weaker R Q xs ys rule z.1)

-- the second list is a map of one that goes along
pub zip_map : {A B C : Type 0} (R : A → C → Type 0) (f : B → C) (xs : List A) (ys : List B) → AllZip (λ a b. R a (f b)) xs ys → AllZip R xs (map f ys)
zip_map R f [] [] z = tt
zip_map R f [] (y ∷ ys) z = absurd z
zip_map R f (x ∷ xs) [] z = absurd z
zip_map R f (x ∷ xs) (y ∷ ys) z = (z.0, zip_map R f xs ys z.1)

-- maps of one range of numbers
pub zip_numbers : {A B : Type 0} (R : A → B → Type 0) (f : ℕ → A) (g : ℕ → B) (a n : ℕ) → ((i : ℕ) → i < a + n → R (f i) (g i)) → AllZip R (map f (count_from a n)) (map g (range_with_len a n))
zip_numbers R f g a zero rule = tt
zip_numbers R f g a (suc n) rule =
    let e : suc a ≡ a + 1 = omega arith in
    (rule a (omega arith), subst (λ k. AllZip R (map f (count_from (suc a) n)) (map g (range_with_len k n))) e (zip_numbers R f g (suc a) n (λ i lt. rule i (omega arith))))

-- lists put together along one range of numbers
pub zip_ranges : {A B : Type 0} (R : A → B → Type 0) (f : ℕ → List A) (g : ℕ → List B) (a n : ℕ) → ((i : ℕ) → i < a + n → AllZip R (f i) (g i)) → AllZip R (flat_map f (count_from a n)) (flat_map g (range_with_len a n))
zip_ranges R f g a zero rule = tt
zip_ranges R f g a (suc n) rule =
    let e : suc a ≡ a + 1 = omega arith in
    zip_append R (f a) (flat_map f (count_from (suc a) n)) (g a) (flat_map g (range_with_len (a + 1) n)) (rule a (omega arith))
    (subst (λ k. AllZip R (flat_map f (count_from (suc a) n)) (flat_map g (range_with_len k n))) e (zip_ranges R f g (suc a) n (λ i lt. rule i (omega arith))))

-- what is the same of both
pub zip_same : {A B C : Type 0} (R : A → B → Type 0) (f : A → C) (g : B → C) (xs : List A) (ys : List B) → ((a : A) (b : B) → R a b → f a ≡ g b) → AllZip R xs ys → map f xs ≡ map g ys
zip_same R f g [] [] rule z = refl
zip_same R f g [] (y ∷ ys) rule z = absurd z
zip_same R f g (x ∷ xs) [] rule z = absurd z
zip_same R f g (x ∷ xs) (y ∷ ys) rule z = ap (λ c. c ∷ map f xs) (rule x y z.0) ∙ ap (λ cs. g y ∷ cs) (zip_same R f g xs ys rule z.1)

-- lists put together twice
pub flat_map_twice : {X Y Z : Type 0} (f : Y → List Z) (g : X → List Y) (xs : List X) → flat_map f (flat_map g xs) ≡ flat_map (λ x. flat_map f (g x)) xs
flat_map_twice f g [] = refl
flat_map_twice {X} {Y} f g (x ∷ xs) = split (g x) ∙ ap (λ zs. flat_map f (g x) ++ zs) (flat_map_twice f g xs)
  where
    split : (ys : List Y) → flat_map f (ys ++ flat_map g xs) ≡ flat_map f ys ++ flat_map f (flat_map g xs)
    split [] = refl
    split (y ∷ ys) = ap (λ zs. f y ++ zs) (split ys) ∙ sym (append_assoc (f y) (flat_map f ys) (flat_map f (flat_map g xs)))
