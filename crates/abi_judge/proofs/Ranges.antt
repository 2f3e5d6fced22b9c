-- Numbers in turn, and lists whose items begin in different ways.
use Rattle.std.proofs.Common.{◌≡◌, ℕ, zero, suc, ◌+◌, ◌<◌, ◌≤◌, ◌⊎◌, inl, inr, ⊎_elim, List, [], ◌∷◌, ◌++◌, map, length, take, get_or, refl, ap, subst, sym, ◌∙◌, arith, append_assoc}
use Rattle.std.specs.List.{flat_map, range_with_len}
use Rattle.std.proofs.lemmas.List.{map-append, flat_map_more, take_more}
use Rattle.foundation.proofs.Members.{Has, EachOnce, AreApart, EachApart, from_map}

pub range_below : (a n i : ℕ) → Has (range_with_len a n) i → (a ≤ i) × (i < a + n)
range_below a zero i has = absurd has
range_below a (suc n) i has = ⊎_elim
    (λ same. let e : a ≡ i = same in (omega arith, omega arith))
    (λ later. let r = range_below (a + 1) n i later in let low = r.0 in let high = r.1 in (omega arith, omega arith))
    has

le_cases : (a i : ℕ) → a ≤ i → (a ≡ i) ⊎ (a + 1 ≤ i)
le_cases a i le = grind arith

pub range_has : (a n i : ℕ) → a ≤ i → i < a + n → Has (range_with_len a n) i
range_has a zero i low high = absurd (omega arith)
range_has a (suc n) i low high = ⊎_elim (λ e. inl e) (λ le. inr (range_has (a + 1) n i le (omega arith))) (le_cases a i low)

pub range_once : (a n : ℕ) → EachOnce (range_with_len a n)
range_once a zero = tt
range_once a (suc n) = (λ has. let r = range_below (a + 1) n a has in let low = r.0 in absurd (omega (arith, low)), range_once (a + 1) n)

-- a map goes into each of the lists
pub map_flat : {X A B : Type 0} (g : A → B) (f : X → List A) (xs : List X) → map g (flat_map f xs) ≡ flat_map (λ x. map g (f x)) xs
map_flat g f [] = refl
map_flat g f (x ∷ xs) = map-append g (f x) (flat_map f xs) ∙ ap (λ t. map g (f x) ++ t) (map_flat g f xs)

-- all items begin in this way
pub record AllBegin {X : Type 0} (first : X) (xs : List (List X)) : Type 0 where
  pub begins : (x : List X) → Has xs x → (rest : List X) × (x ≡ first ∷ rest)

pub apart_begun : {X : Type 0} (a b : X) (xs ys : List (List X)) → (a ≡ b → ⊥) → AllBegin a xs → AllBegin b ys → AreApart xs ys
apart_begun {X} a b xs ys differ of_xs of_ys = record {
  none = λ x here there.
      let p = of_xs.begins x here in
      let q = of_ys.begins x there in
      let e : (a ∷ p.0) ≡ (b ∷ q.0) = sym p.1 ∙ q.1 in
      differ (cc);
}

-- lists are apart where those of two different items are
pub each_apart : {X Y : Type 0} (f : X → List Y) (xs : List X) → EachOnce xs → ((x y : X) → (x ≡ y → ⊥) → AreApart (f x) (f y)) → EachApart f xs
each_apart f [] once differ = tt
each_apart {X} f (x ∷ xs) once differ = (λ y has. differ x y (λ e. once.0 (subst (λ (z : X). Has xs z) (sym e) has)), each_apart f xs once.1 differ)

-- what is begun with one more item is each once where the rests are
pub once_map : {X Y : Type 0} (g : X → Y) → ((x y : X) → g x ≡ g y → x ≡ y) → (xs : List X) → EachOnce xs → EachOnce (map g xs)
once_map g one [] once = tt
once_map {X} g one (x ∷ xs) once = (λ has. let r = from_map g xs (g x) has in once.0 (subst (λ (z : X). Has xs z) (one r.0 x r.2) r.1), once_map g one xs once.1)

-- one item of a list more
pub items_next : {X A : Type 0} (f : X → List A) (list : List X) (j : ℕ) (x : X) (old mid new : List A) → j < length list → x ≡ get_or list j x → mid ≡ old ++ flat_map f (take j list) → new ≡ mid ++ f x → new ≡ old ++ flat_map f (take (j + 1) list)
items_next {X} {A} f list j x old mid new less at e last =
    last ∙ (ap (λ (t : List A). t ++ f x) e ∙ (flat_map_more f old (take j list) x ∙ (ap (λ (y : X). old ++ flat_map f (take j list ++ y ∷ [])) at ∙ ap (λ (t : List X). old ++ flat_map f t) (sym (take_more list j x less)))))

range_end : (a n : ℕ) → range_with_len a (n + 1) ≡ range_with_len a n ++ (a + n) ∷ []
range_end a zero = ap (λ k. k ∷ []) (let e : a ≡ a + 0 = omega arith in e)
range_end a (suc n) =
    let e : a + 1 + n ≡ a + suc n = omega arith in
    let f : suc n + 1 ≡ suc (n + 1) = omega arith in
    ap (range_with_len a) f ∙ (ap (λ (t : List ℕ). a ∷ t) (range_end (a + 1) n) ∙ ap (λ k. a ∷ (range_with_len (a + 1) n ++ k ∷ [])) e)

range_more : (n : ℕ) → range_with_len 0 (n + 1) ≡ range_with_len 0 n ++ n ∷ []
range_more n = let e : 0 + n ≡ n = omega arith in range_end 0 n ∙ ap (λ k. range_with_len 0 n ++ k ∷ []) e

-- one number more
pub range_next : {A : Type 0} (f : ℕ → List A) (n : ℕ) (old mid new : List A) → mid ≡ old ++ flat_map f (range_with_len 0 n) → new ≡ mid ++ f n → new ≡ old ++ flat_map f (range_with_len 0 (n + 1))
range_next {A} f n old mid new e last = last ∙ (ap (λ (t : List A). t ++ f n) e ∙ (flat_map_more f old (range_with_len 0 n) n ∙ ap (λ (t : List ℕ). old ++ flat_map f t) (sym (range_more n))))

pub range_map_next : {A : Type 0} (f : ℕ → A) (n : ℕ) (old mid new : List A) → mid ≡ old ++ map f (range_with_len 0 n) → new ≡ mid ++ f n ∷ [] → new ≡ old ++ map f (range_with_len 0 (n + 1))
range_map_next {A} f n old mid new e last =
    let g : map f (range_with_len 0 n ++ n ∷ []) ≡ map f (range_with_len 0 n) ++ f n ∷ [] = map-append f (range_with_len 0 n) (n ∷ []) in
    last ∙ (ap (λ (t : List A). t ++ f n ∷ []) e ∙ (append_assoc old (map f (range_with_len 0 n)) (f n ∷ []) ∙ ap (λ (t : List A). old ++ t) (sym (ap (map f) (range_more n) ∙ g))))
